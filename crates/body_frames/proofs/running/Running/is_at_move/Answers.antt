use Rattle.body_frames.proofs.Leading.{runs_shared}
use Rattle.body_frames.proofs.running.Running.is_at_move.Goals as goal

pub returns : goal.returns
returns c = λ yes.
    runs_shared c.self.inside.blocks.value c.deref.result.now c.args.self.now c.self.inside.stack c.self.inside.gives c.deref.ensures c.self.view_is (c.is_at_move.ensures yes)
