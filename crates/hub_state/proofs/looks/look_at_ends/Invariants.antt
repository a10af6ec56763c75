use Rattle.std.proofs.Common.{take}
use Rattle.hub_state.specs.Found.{LooksAt, for_one_of}
use Rattle.hub_state.specs.Over.{whole}
use Rattle.hub_state.proofs.looks.look_at_ends.Given as goal

abbrev pub invariant-loop-number : goal.invariant-loop-number
invariant-loop-number l = LooksAt (for_one_of (take l.number-index l.ends)) (whole l.base l.held) l.held.entries l.fn.found l.found
