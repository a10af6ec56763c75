use Rattle.std.proofs.Common.{take}
use Rattle.hub_state.proofs.Looking.{LooksMade}
use Rattle.hub_state.proofs.looks.look_at_made.Given as goal

abbrev pub invariant-loop-slot : goal.invariant-loop-slot
invariant-loop-slot l = LooksMade (take l.slot-index l.made) l.held.entries l.fn.found l.found
