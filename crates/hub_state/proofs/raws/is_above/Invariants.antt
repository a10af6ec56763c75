use Rattle.std.proofs.Common.{◌≡◌, length}
use Rattle.machine.specs.Hosts.{is_above}
use Rattle.hub_state.proofs.raws.is_above.Given as goal

abbrev pub invariant-loop-left : goal.invariant-loop-left
invariant-loop-left l = is_above (length l.greenlets) l.greenlets l.child l.g ≡ is_above l.left l.greenlets l.child l.other

abbrev pub decreases-loop-left : goal.decreases-loop-left
decreases-loop-left l = l.left
