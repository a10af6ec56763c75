use Rattle.std.proofs.Common.{◌≡◌, drop}
use Rattle.std.specs.List.{find}
use Rattle.scenario_grammar.specs.Keyword.{is_spelled}
use Rattle.scenario_keywords.proofs.keyword.first_spelled.Given as goal

abbrev pub invariant-loop-keyword : goal.invariant-loop-keyword
invariant-loop-keyword l = find (is_spelled l.word) (drop l.keyword-index l.keywords) ≡ find (is_spelled l.word) l.keywords
