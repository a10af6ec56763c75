use Rattle.scenario_print.proofs.Words.{further}
use Rattle.scenario_print.proofs.start.start_name_expression.Goals as goal

pub returns : goal.returns
returns c = further c.in_ok-start_name.ensures c.push_expression.ensures
