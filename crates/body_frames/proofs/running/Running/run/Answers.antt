use Rattle.machine.specs.Bodies.{around}
use Rattle.body_frames.proofs.Leading.{none_takes, ran_shared}
use Rattle.body_frames.proofs.running.Running.run.Goals as goal

pub returns-clause-unheard : goal.returns-clause-unheard
returns-clause-unheard c = none_takes c.self.inside.blocks.value c.args.self.now c.self.inside.stack c.self.inside.gives c.self.view_is c.requires.unheard

pub returns-clause-ran : goal.returns-clause-ran
returns-clause-ran c = λ look.
    ran_shared c.self.inside.blocks.value c.deref.result.now (around c.args.code.now look) c.run_moves.result c.args.self.now c.self.inside.stack c.run_moves.new.stack c.self.inside.gives
    c.deref.ensures c.self.view_is
    (none_takes c.self.inside.blocks.value c.args.self.now c.self.inside.stack c.self.inside.gives c.self.view_is c.requires.unheard) (c.run_moves.ensures.ran look)
