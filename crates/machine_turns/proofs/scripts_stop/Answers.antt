use Rattle.machine_turns.proofs.Stopping.{scripts-stop}
use Rattle.machine_turns.proofs.scripts_stop.Goals as goal

pub returns : goal.returns
returns c = scripts-stop
