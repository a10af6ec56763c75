use Rattle.std.proofs.Common.{◌≡◌, ◌++◌, drop, map}
use Rattle.scenario_rules.specs.Mention.{on}
use Rattle.scenario_rules.specs.declared.mention.Says.{Says as Word}
use Rattle.scenario_check.proofs.blocks.say_parameters.Given as goal

abbrev pub invariant-loop-parameter : goal.invariant-loop-parameter
invariant-loop-parameter l = l.said ++ on l.line (map (λ x. Word.Gives x) (drop l.parameter-index l.parameters)) ≡ l.fn.said ++ on l.line (map (λ x. Word.Gives x) l.parameters)
