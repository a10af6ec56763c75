use Rattle.std.proofs.Common.{drop}
use Rattle.hub_state.proofs.Numbering.{Gives}
use Rattle.hub_state.proofs.numbers.number_all.Given as goal

abbrev pub invariant-loop-pair : goal.invariant-loop-pair
invariant-loop-pair l = Gives l.gained (drop l.pair-index l.gained) l.pair-index l.fn.held l.held
