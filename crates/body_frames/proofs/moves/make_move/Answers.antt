use Rattle.std.proofs.Common.{◌∙◌, ap, subst, sym}
use Rattle.body_frames.specs.declared.stack.Stack.{Stack}
use Rattle.body_entries.specs.Entries.{todo_of}
use Rattle.body_entries.specs.Few.{HasFewToDo}
use Rattle.body_frames.proofs.Leading.{unmade}
use Rattle.body_frames.proofs.moves.make_move.Goals as goal

pub finish_move-requires-clause-told : goal.finish_move-requires-clause-told
finish_move-requires-clause-told g c = λ not.
    ap (λ (s : Stack). s.left) (unmade c.args.context.now.blocks.now c.args.stack.now c.make_primitive_move.new.stack c.in_ok-is_made.is_made c.in_ok-is_made.ensures.made not) ∙ c.requires.told

pub finish_move-requires-clause-few : goal.finish_move-requires-clause-few
finish_move-requires-clause-few g c = λ not.
    subst (λ (s : Stack). HasFewToDo (todo_of c.args.context.now.blocks.now s.todo))
    (sym (unmade c.args.context.now.blocks.now c.args.stack.now c.make_primitive_move.new.stack c.in_ok-is_made.is_made c.in_ok-is_made.ensures.made not)) c.requires.few
