use Rattle.std.proofs.Common.{◌≡◌, ◌≤◌, ◌-◌}
use Rattle.machine.specs.Bodies.{around}
use Rattle.machine.specs.Expressions.{Look}
use Rattle.body_frames.specs.declared.runs.Halt.{Halt}
use Rattle.body_entries.specs.Entries.{todo_of}
use Rattle.body_entries.specs.Few.{HasFewToDo}
use Rattle.body_frames.specs.PrimitiveMoves.{RunsAt}
use Rattle.body_frames.specs.Runs.{HasRun}
use Rattle.body_frames.specs.Standings.{frame_of}
use Rattle.body_frames.proofs.Leading.{LeadsTo}
use Rattle.body_frames.proofs.runs.run_moves.Given as goal

abbrev pub invariant-moves : goal.invariant-moves
invariant-moves l = record {
  counted : l.moves ≤ l.fn.most;
  told : l.stack.left ≡ l.initial.stack.left;
  runs : RunsAt (todo_of l.fn.blocks l.stack.todo);
  few : HasFewToDo (todo_of l.fn.blocks l.stack.todo);
  leads : (look : Look) → LeadsTo (around l.fn.code look) l.moves (frame_of l.fn.blocks l.initial.stack) (frame_of l.fn.blocks l.stack);
  ran : (look : Look) → HasRun (around l.fn.code look) l.moves Halt.Ahead (frame_of l.fn.blocks l.initial.stack) (frame_of l.fn.blocks l.stack);
}

abbrev pub decreases-moves : goal.decreases-moves
decreases-moves l = l.fn.most - l.moves
