use Rattle.std.proofs.Common.{◌≡◌, ◌==◌, take, drop, ◌++◌}
use Rattle.std.specs.Prelude.{filter, not}
use Rattle.hub_objects.proofs.crews.leave_once.Given as goal

abbrev pub invariant-loop-i : goal.invariant-loop-i
invariant-loop-i l =
    (l.members ≡ l.initial.members)
    × (filter (λ h. not (h == l.g)) l.initial.members ≡ take l.i l.members ++ filter (λ h. not (h == l.g)) (drop l.i l.members))
