use Rattle.std.proofs.Common.{refl, sym, subst, ◌∷◌, ℕ, Option, true, false, drop}
use Rattle.gv_values.specs.declared.value.Value.{Value}
use Rattle.body_blocks.specs.declared.statement.FlatAction.{FlatAction}
use Rattle.body_primitives.specs.Primitives.{Means}
use Rattle.body_entries.specs.declared.entry.Entry.{Entry}
use Rattle.body_frames.specs.declared.stack.Stack.{Stack}
use Rattle.body_entries.specs.Entries.{form_of}
use Rattle.body_frames.specs.PrimitiveMoves.{HasActed}
use Rattle.body_frames.proofs.PrimitiveMoves.{if_not, means_so}
use Rattle.body_frames.proofs.primitive_moves.act.Goals as goal

pub returns-in_ok-pass-in-None-no-clause-made : goal.returns-in_ok-pass-in-None-no-clause-made
returns-in_ok-pass-in-None-no-clause-made c =
    let t = c.args.blocks.now in
    let old = c.args.stack.now in
    let new : Stack = record { locals = old.locals; todo = c.pass.new.todo; left = old.left } in
    let after = Entry.Rest c.args.block c.args.next ∷ drop 1 old.todo in
    let means : Means c.in-If.test old.locals (Value.Bool false) = means_so c.in-If.test old.locals c.in-Some-false.field-0 false c.in-Some-false.field-0-test c.in-Some-false.ensures in
    subst (λ (a : FlatAction). HasActed true t (form_of t a) after old new) (sym c.in-If.is)
    (subst (λ (n : Option ℕ). HasActed true t (form_of t (FlatAction.If c.in-If.test c.in-If.yes n)) after old new) (sym c.in-None-no.is)
    (if_not t c.in-If.test c.in-If.yes after old new means refl refl c.in_ok-pass-in-None-no.ensures))
