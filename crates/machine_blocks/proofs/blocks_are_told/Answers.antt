use Rattle.machine_blocks.proofs.Calm.{run-told}
use Rattle.machine_blocks.proofs.blocks_are_told.Goals as goal

pub returns : goal.returns
returns c = run-told
