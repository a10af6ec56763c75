use Rattle.scenario_print.proofs.Layers.{whole}
use Rattle.scenario_print.proofs.expression.push_expression.Goals as goal

pub returns : goal.returns
returns c = whole c.push_operand.ensures
