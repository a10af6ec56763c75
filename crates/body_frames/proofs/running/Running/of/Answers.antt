use Rattle.std.proofs.Common.{refl}
use Rattle.body_entries.specs.Entries.{todo_of}
use Rattle.body_frames.proofs.Leading.{runs_at_move}
use Rattle.body_frames.proofs.running.Running.of.Goals as goal

pub returns-clause-moving : goal.returns-clause-moving
returns-clause-moving c = record {
  runs = runs_at_move (todo_of c.body.inside.blocks.value c.body.inside.todo) c.body.invariant.0;
  unheard = refl;
  few = c.body.invariant.1;
}
