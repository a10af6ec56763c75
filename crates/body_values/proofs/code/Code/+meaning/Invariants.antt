use Rattle.std.proofs.Common.{◌≡◌, drop, map}
use Rattle.body_names.specs.Expressions.{expression_of}
use Rattle.body_locals.specs.Locals.{locals_of}
use Rattle.machine.specs.Bodies.{around}
use Rattle.machine.specs.BodyMoves.{values}
use Rattle.body_values.proofs.Operands.{prepended}
use Rattle.body_values.proofs.code.Code.+meaning.Given as goal

abbrev pub invariant-values-loop-expression : goal.invariant-values-loop-expression
invariant-values-loop-expression g l =
    values (map (expression_of l.scope.blocks.now.names) l.expressions) (around l.self (g.L.Look.answers l.look) (locals_of l.scope.blocks.now.names l.scope.locals.now))
    ≡ prepended l.values
    (values (map (expression_of l.scope.blocks.now.names) (drop l.expression-index l.expressions))
    (around l.self (g.L.Look.answers l.look) (locals_of l.scope.blocks.now.names l.scope.locals.now)))
