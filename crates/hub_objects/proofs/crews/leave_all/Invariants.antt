use Rattle.std.proofs.Common.{◌≡◌, take, drop, ◌++◌}
use Rattle.std.specs.Prelude.{map}
use Rattle.machine.specs.Objects.{without_member}
use Rattle.hub_objects.proofs.crews.leave_all.Given as goal

abbrev pub invariant-loop-i : goal.invariant-loop-i
invariant-loop-i l = map (without_member l.g) l.initial.objects ≡ take l.i l.objects ++ map (without_member l.g) (drop l.i l.objects)
