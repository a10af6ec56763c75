use Rattle.std.proofs.Common.{◌≡◌, length}
use Rattle.scenario_lines.specs.Fronts.{spaced_tokens}
use Rattle.scenario_lines.proofs.Spaced.{behind}
use Rattle.scenario_lines.proofs.layout.line_tokens.Given as goal

abbrev pub invariant-loop-at : goal.invariant-loop-at
invariant-loop-at l = behind l.tokens (spaced_tokens l.profile l.rest) ≡ spaced_tokens l.profile l.fn.text

abbrev pub decreases-loop-at : goal.decreases-loop-at
decreases-loop-at l = length l.rest
