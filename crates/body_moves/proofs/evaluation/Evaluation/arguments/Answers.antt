use Rattle.std.proofs.Common.{◌≡◌, ◌∙◌, ap, subst, sym, List, length, map, Ok, arith}
use Rattle.machine.specs.Bodies.{around}
use Rattle.machine.specs.BodyMoves.{values}
use Rattle.body_names.specs.declared.expression.FlatExpression.{FlatExpression}
use Rattle.body_names.specs.Expressions.{expression_of}
use Rattle.body_locals.specs.Locals.{locals_of}
use Rattle.body_moves.proofs.Counts.{HasLength, values-length}
use Rattle.body_moves.proofs.evaluation.Evaluation.arguments.Goals as goal

pub new-requires : goal.new-requires
new-requires g c =
    let names = c.args.self.now.blocks.now.names in
    let a = around c.args.self.now.code.now (g.L.Look.answers c.args.self.now.look.now) (locals_of names c.args.self.now.locals.now) in
    let es = map (expression_of names) c.as_slice.result.now in
    let known : Ok c.in-Ok.values ≡ values es a = sym c.in-Ok.is ∙ c.in_ok-values.ensures in
    let same : length c.in-Ok.values ≡ length es = subst (HasLength (length es)) (sym known) (values-length es a) in
    omega (arith, same, ap (λ (fs : List FlatExpression). length (map (expression_of names) fs)) c.as_slice.ensures, c.requires)
