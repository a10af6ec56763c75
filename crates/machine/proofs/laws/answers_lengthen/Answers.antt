use Rattle.machine.proofs.Lengthens.{run-lengthens}
use Rattle.machine.proofs.laws.answers_lengthen.Goals as goal

pub returns : goal.returns
returns c = run-lengthens
