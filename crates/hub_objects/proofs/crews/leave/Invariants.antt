use Rattle.std.proofs.Common.{◌≡◌, ◌==◌, ◌-◌, ◌≤◌, length, take, drop, ◌++◌}
use Rattle.std.specs.Prelude.{filter, not}
use Rattle.hub_objects.proofs.crews.leave.Given as goal

abbrev pub invariant-loop-i : goal.invariant-loop-i
invariant-loop-i l =
    (filter (λ h. not (h == l.g)) l.initial.members ≡ take l.i l.members ++ filter (λ h. not (h == l.g)) (drop l.i l.members))
    × (l.i ≤ length l.members)

abbrev pub decreases-loop-i : goal.decreases-loop-i
decreases-loop-i l = length l.members - l.i
