use Rattle.std.proofs.Common.{◌≡◌, ◌++◌, drop}
use Rattle.scenario_rules.specs.Mention.{all_say, on}
use Rattle.scenario_check.proofs.expressions.+expression.Given as goal

abbrev pub invariant-say_all-loop-expression : goal.invariant-say_all-loop-expression
invariant-say_all-loop-expression l = l.said ++ on l.line (all_say (drop l.expression-index l.expressions)) ≡ l.fn.said ++ on l.line (all_say l.expressions)
