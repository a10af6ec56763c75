use Rattle.run_command.proofs.StormTexts.{storm, storm_is}
use Rattle.run_command.proofs.storming.storms_are_spelt.Goals as goal

pub returns : goal.returns
returns c = λ n small. (storm n, storm_is n small)
