use Rattle.std.proofs.Common.{◌≡◌, ◌∙◌, ap, refl, ◌∷◌, drop}
use Rattle.machine.specs.Bodies.{around}
use Rattle.body_entries.specs.declared.entry.Entry.{Entry}
use Rattle.body_frames.specs.declared.stack.Stack.{Stack}
use Rattle.body_frames.proofs.Heads.{quickly_asked}
use Rattle.body_frames.proofs.quick.ask_quickly.Goals as goal

pub returns-in_ok-advance-in-Some-quick_of-clause-asked : goal.returns-in_ok-advance-in-Some-quick_of-clause-asked
returns-in_ok-advance-in-Some-quick_of-clause-asked c = λ look.
    let old = c.args.stack.now in
    let todo = old.todo in
    let new : Stack = record { locals = old.locals; todo = c.advance.new.todo; left = old.left } in
    let first : todo ≡ Entry.Rest c.in-Some-Rest.block c.in-Some-Rest.at ∷ drop 1 todo = c.in-Some-Rest.ensures ∙ ap (λ (e : Entry). e ∷ drop 1 todo) c.in-Some-Rest.field-0-is in
    quickly_asked c.args.blocks.now c.in-Some-Rest.block c.in-Some-Rest.at c.in-Some.statement.now (around c.args.code.now look) old c.in-Some-quick_of.quick new first
    c.in-Some.ensures.here c.in_ok-advance-in-Some-quick_of.ensures refl (c.in-Some-quick_of.ensures look)
