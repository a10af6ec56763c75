use Rattle.scenario_print.proofs.Words.{further}
use Rattle.scenario_print.proofs.start.start_expressions.Goals as goal

pub returns : goal.returns
returns c = further c.in_ok-start_expression.ensures c.push_expression.ensures
