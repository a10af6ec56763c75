use Rattle.scenario_print.proofs.expression.push_expressions.Goals as goal

pub returns : goal.returns
returns c = rw (← c.as_slice.ensures) c.push_operands.ensures
