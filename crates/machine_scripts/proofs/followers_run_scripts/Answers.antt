use Rattle.machine_scripts.proofs.Followed.{run-ruled}
use Rattle.machine_scripts.proofs.followers_run_scripts.Goals as goal

pub returns : goal.returns
returns c = run-ruled
