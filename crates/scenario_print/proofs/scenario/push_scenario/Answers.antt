use Rattle.scenario_print.proofs.ScenarioLemmas.{whole_scenario}
use Rattle.scenario_print.proofs.scenario.push_scenario.Goals as goal

pub returns : goal.returns
returns c = whole_scenario c.args.s.now c.as_slice.result.now c.as_slice-2.result.now c.as_slice.ensures c.as_slice-2.ensures c.in_ok-push_profile.ensures c.in_ok-push_declarations.ensures c.push_functions.ensures
