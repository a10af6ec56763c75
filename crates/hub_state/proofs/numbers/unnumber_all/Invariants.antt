use Rattle.std.proofs.Common.{drop}
use Rattle.hub_state.proofs.Numbering.{Takes}
use Rattle.hub_state.proofs.numbers.unnumber_all.Given as goal

abbrev pub invariant-loop-pair : goal.invariant-loop-pair
invariant-loop-pair l = Takes l.lost (drop l.pair-index l.lost) l.fn.held l.held
