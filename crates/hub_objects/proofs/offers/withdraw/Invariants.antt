use Rattle.std.proofs.Common.{◌≡◌, ◌-◌, ◌≤◌, length, take, drop, ◌++◌}
use Rattle.std.specs.Prelude.{filter, not}
use Rattle.machine.specs.Holds.{is_offer_of}
use Rattle.hub_objects.proofs.offers.withdraw.Given as goal

abbrev pub invariant-loop-i : goal.invariant-loop-i
invariant-loop-i l =
    (filter (λ offer. not (is_offer_of l.since offer)) l.initial.offers
    ≡ take l.i l.offers ++ filter (λ offer. not (is_offer_of l.since offer)) (drop l.i l.offers))
    × (l.i ≤ length l.offers)

abbrev pub decreases-loop-i : goal.decreases-loop-i
decreases-loop-i l = length l.offers - l.i
