use Rattle.std.proofs.Common.{◌≡◌, length}
use Rattle.item_places.proofs.TableLemmas.{IsRefilled}
use Rattle.item_places.proofs.places.refill.Given as goal

abbrev pub invariant-loop-at : goal.invariant-loop-at
invariant-loop-at l = IsRefilled l.from l.to l.homes l.at l.free × (length l.to ≡ length l.initial.to)
