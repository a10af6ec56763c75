use Rattle.scenario_rules.proofs.RuleReasons.{no_place}
use Rattle.scenario_rules.proofs.laws.well_formed_scenarios_have_no_place.Goals as goal

pub returns : goal.returns
returns c = no_place
