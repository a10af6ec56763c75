use Rattle.scenario_rules.proofs.Conserved.{conserved}
use Rattle.scenario_rules.proofs.laws.well_formed_scenarios_are_of_profile_3.Goals as goal

pub returns : goal.returns
returns c = conserved
