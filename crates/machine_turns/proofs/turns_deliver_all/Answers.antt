use Rattle.machine_turns.proofs.Turning.{turn-leaves}
use Rattle.machine_turns.proofs.turns_deliver_all.Goals as goal

pub returns : goal.returns
returns c = turn-leaves
