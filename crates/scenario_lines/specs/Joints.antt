-- Expressions of two operands.
use Rattle.scenario_grammar.specs.Reading.{Reader, ◌<$>◌, ◌<*>◌}
use Rattle.scenario_lines.specs.declared.expression.Joint.{Joint}
use Rattle.scenario_lines.specs.declared.expression.Joint.TheVariants as joint
use Rattle.scenario_tree.specs.declared.tree.Expression.{Expression}
use Rattle.scenario_tree.specs.declared.tree.Expression.TheVariants as e

-- one expression of two
abbrev pub joined : Joint → Expression → Expression → Expression
joined (joint.Binary op) = e.Binary op
joined joint.And = e.And
joined joint.Or = e.Or

-- the rest of such an expression, behind its word
abbrev pub of_two_at : Reader Expression → Joint → Reader Expression
of_two_at operand by = joined by <$> operand <*> operand
