use Rattle.scenario_print.proofs.ScenarioLemmas.{spelt_has_text}
use Rattle.scenario_print.proofs.scenario.spelt_trees_have_text.Goals as goal

pub returns : goal.returns
returns c = spelt_has_text
