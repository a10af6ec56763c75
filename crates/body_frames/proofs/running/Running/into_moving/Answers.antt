use Rattle.std.proofs.Common.{[], subst, sym}
use Rattle.machine.specs.declared.state.Frame.{Frame}
use Rattle.machine.specs.declared.state.Leaving.{Leaving}
use Rattle.machine.specs.Unwinding.{Unwound}
use Rattle.body_entries.specs.Entries.{todo_of}
use Rattle.body_entries.specs.Few.{HasFewToDo}
use Rattle.body_frames.specs.PrimitiveMoves.{RunsAt}
use Rattle.body_frames.proofs.AtMoves.{moves_as}
use Rattle.body_frames.proofs.running.Running.into_moving.Goals as goal

pub invariant_of-result : goal.invariant_of-result
invariant_of-result c =
    let todo = todo_of c.self.inside.blocks.value c.self.inside.stack.todo in
    let runs : RunsAt todo = subst (λ (f : Frame). RunsAt f.todo) (sym c.self.view_is) c.requires.runs in
    (moves_as (Unwound.Runs [] [] todo) todo [] Leaving.Normally [] (runs [] []), subst (λ (f : Frame). HasFewToDo f.todo) (sym c.self.view_is) c.requires.few)
