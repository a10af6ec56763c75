use Rattle.std.proofs.Common.{ap, ◌∙◌}
use Rattle.scenario_rules.specs.Mention.{expression_says}
use Rattle.scenario_check.proofs.Appending.{added_as, said_as}
use Rattle.scenario_check.proofs.ByForm.{unary_says, binary_says, and_says, or_says}
use Rattle.scenario_check.proofs.expressions.+expression.Goals as goal

pub say_expression-returns-in_ok-say_boxed-in-Unary : goal.say_expression-returns-in_ok-say_boxed-in-Unary
say_expression-returns-in_ok-say_boxed-in-Unary t c =
    said_as _ _ _ _ _ (ap expression_says c.in-Unary.is ∙ unary_says c.in-Unary.field-0 _) c.in_ok-say_boxed-in-Unary.ensures

pub say_expression-returns-in_ok-say_boxed-in-Binary-2 : goal.say_expression-returns-in_ok-say_boxed-in-Binary-2
say_expression-returns-in_ok-say_boxed-in-Binary-2 t c =
    added_as _ _ _ _ _ _ _ (ap expression_says c.in-Binary.is ∙ binary_says c.in-Binary.field-0 _ _) c.in_ok-say_boxed-in-Binary.ensures c.in_ok-say_boxed-in-Binary-2.ensures

pub say_expression-returns-in_ok-say_boxed-in-And-2 : goal.say_expression-returns-in_ok-say_boxed-in-And-2
say_expression-returns-in_ok-say_boxed-in-And-2 t c =
    added_as _ _ _ _ _ _ _ (ap expression_says c.in-And.is ∙ and_says _ _) c.in_ok-say_boxed-in-And.ensures c.in_ok-say_boxed-in-And-2.ensures

pub say_expression-returns-in_ok-say_boxed-in-Or-2 : goal.say_expression-returns-in_ok-say_boxed-in-Or-2
say_expression-returns-in_ok-say_boxed-in-Or-2 t c =
    added_as _ _ _ _ _ _ _ (ap expression_says c.in-Or.is ∙ or_says _ _) c.in_ok-say_boxed-in-Or.ensures c.in_ok-say_boxed-in-Or-2.ensures
