use Rattle.std.proofs.Common.{◌≡◌, ◌∙◌, ap, subst, List, ◌∷◌, drop}
use Rattle.machine.specs.Bodies.{around}
use Rattle.body_entries.specs.declared.entry.Entry.{Entry}
use Rattle.body_entries.specs.Entries.{todo_of}
use Rattle.body_entries.specs.Few.{HasFewToDo}
use Rattle.body_frames.proofs.Heads.{statement_moved}
use Rattle.body_frames.proofs.Readings.{few_there}
use Rattle.body_frames.proofs.moves.make_any_move.Goals as goal

pub act-requires-clause-few : goal.act-requires-clause-few
act-requires-clause-few g c =
    let t = c.args.context.now.blocks.now in
    let todo = c.args.stack.now.todo in
    let first : todo ≡ Entry.Rest c.in-Some-Rest.block c.in-Some-Rest.at ∷ drop 1 todo = c.in-Some-Rest.ensures ∙ ap (λ (e : Entry). e ∷ drop 1 todo) c.in-Some-Rest.field-0-is in
    let few = subst (λ (es : List Entry). HasFewToDo (todo_of t es)) first c.requires.few in
    few_there t c.in-Some-Rest.block c.in-Some-Rest.at c.in-Some.statement.now c.in-Some.ensures.here few.0

pub returns-in_ok-act-in-Some-clause-made : goal.returns-in_ok-act-in-Some-clause-made
returns-in_ok-act-in-Some-clause-made g c =
    let todo = c.args.stack.now.todo in
    let first : todo ≡ Entry.Rest c.in-Some-Rest.block c.in-Some-Rest.at ∷ drop 1 todo = c.in-Some-Rest.ensures ∙ ap (λ (e : Entry). e ∷ drop 1 todo) c.in-Some-Rest.field-0-is in
    statement_moved c.args.context.now.blocks.now c.in-Some-Rest.block c.in-Some-Rest.at c.in-Some.statement.now
    (around c.args.context.now.code.now (g.L.Look.answers c.args.context.now.look.now)) c.args.stack.now c.advance.new.todo c.in_ok-act-in-Some.field-0 c.act.new.stack first
    c.in-Some.ensures.here c.in_ok-advance-in-Some.ensures c.in_ok-act-in-Some.ensures.made
