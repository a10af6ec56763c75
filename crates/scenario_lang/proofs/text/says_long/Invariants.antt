use Rattle.std.proofs.Common.{◌≡◌, length}
use Rattle.std.specs.List.{slice_split}
use Rattle.scenario_grammar.specs.Layout.{first_said, is_end}
use Rattle.scenario_lang.proofs.text.says_long.Given as goal

abbrev pub invariant-loop-at : goal.invariant-loop-at
invariant-loop-at l = first_said (slice_split is_end l.rest) ≡ first_said (slice_split is_end l.fn.bytes)

abbrev pub decreases-loop-at : goal.decreases-loop-at
decreases-loop-at l = length l.rest
