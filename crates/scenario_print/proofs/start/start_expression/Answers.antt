use Rattle.scenario_print.proofs.Words.{started}
use Rattle.scenario_print.proofs.start.start_expression.Goals as goal

pub returns : goal.returns
returns c = started c.in_ok-push_first.ensures c.push_expression.ensures
