use Rattle.machine_soundness.proofs.Onward.{lands-onward}
use Rattle.machine_soundness.proofs.landings_go_onward.Goals as goal

pub returns : goal.returns
returns c = lands-onward
