use Rattle.scenario_rules.proofs.RuleReasons.{place_by_rule}
use Rattle.scenario_rules.proofs.laws.rules_have_reasons.Goals as goal

pub returns : goal.returns
returns c = place_by_rule
