use Rattle.std.proofs.Common.{◌≡◌, length}
use Rattle.scenario_grammar.specs.Layout.{drop_blanks}
use Rattle.scenario_lines.proofs.layout.skip_blanks.Given as goal

abbrev pub invariant-loop-rest : goal.invariant-loop-rest
invariant-loop-rest l = drop_blanks l.rest ≡ drop_blanks l.fn.text

abbrev pub decreases-loop-rest : goal.decreases-loop-rest
decreases-loop-rest l = length l.rest
