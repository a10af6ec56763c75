use Rattle.std.proofs.Common.{◌≡◌, length}
use Rattle.machine.specs.Hosts.{host_within}
use Rattle.hub_state.proofs.raws.host_of.Given as goal

abbrev pub invariant-loop-left : goal.invariant-loop-left
invariant-loop-left l = host_within (length l.greenlets) l.greenlets l.g ≡ host_within l.left l.greenlets l.host

abbrev pub decreases-loop-left : goal.decreases-loop-left
decreases-loop-left l = l.left
