use Rattle.std.proofs.Common.{refl, sym, subst, true, ◌∷◌, drop}
use Rattle.body_names.specs.declared.command.FlatCommand.{FlatCommand}
use Rattle.body_blocks.specs.declared.statement.FlatAction.{FlatAction}
use Rattle.body_entries.specs.declared.entry.Entry.{Entry}
use Rattle.body_frames.specs.declared.stack.Stack.{Stack}
use Rattle.body_entries.specs.Entries.{form_of}
use Rattle.body_frames.specs.PrimitiveMoves.{HasActed}
use Rattle.body_frames.proofs.PrimitiveMoves.{let_bound}
use Rattle.body_frames.proofs.primitive_moves.bind_value.Goals as goal

pub returns-then-branch-clause-made : goal.returns-then-branch-clause-made
returns-then-branch-clause-made c =
    let t = c.args.blocks.now in
    let old = c.args.stack.now in
    let new : Stack = record { locals = c.bind_primitive.new.locals; todo = c.pass.new.todo; left = old.left } in
    let after = Entry.Rest c.args.block c.args.next ∷ drop 1 old.todo in
    subst (λ (x : FlatCommand). HasActed true t (form_of t (FlatAction.Command x)) after old new) (sym c.in-Let.is)
    (let_bound t c.in-Let.slot c.in-Let.e c.in_ok-bind_primitive-in-Let.field-0 after old new c.if-branch.true c.in_ok-bind_primitive-in-Let.ensures refl
    c.in_ok-pass-in-Let.ensures)
