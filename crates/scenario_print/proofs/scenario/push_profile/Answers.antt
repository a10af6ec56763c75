use Rattle.scenario_print.proofs.ScenarioLemmas.{first_profile, later_profile}
use Rattle.scenario_print.proofs.scenario.push_profile.Goals as goal

pub returns-then-profile-eq1 : goal.returns-then-profile-eq1
returns-then-profile-eq1 c = first_profile _ _ c.args.profile c.if-profile-eq1.true

pub returns : goal.returns
returns c = later_profile c.args.profile c.if-profile-eq1.false c.push_profile_line.ensures
