use Rattle.std.proofs.Common.{◌≡◌, take, drop, ◌++◌}
use Rattle.std.specs.Prelude.{map}
use Rattle.machine.specs.Objects.{without_offer}
use Rattle.hub_objects.proofs.offers.withdraw_all.Given as goal

abbrev pub invariant-loop-i : goal.invariant-loop-i
invariant-loop-i l = map (without_offer l.since) l.initial.objects ≡ take l.i l.objects ++ map (without_offer l.since) (drop l.i l.objects)
