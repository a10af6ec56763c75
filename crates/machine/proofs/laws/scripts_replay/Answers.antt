use Rattle.machine.proofs.Scripts.{script_run-replays}
use Rattle.machine.proofs.laws.scripts_replay.Goals as goal

pub returns : goal.returns
returns c = script_run-replays
