use Rattle.std.proofs.Common.{ℕ, ◌<◌, ◌≤◌, ◌≡◌, true}
use Rattle.item_places.specs.Table.{slot_at, is_held}
use Rattle.item_places.proofs.places.free_slot.Given as goal

abbrev pub invariant-loop-at : goal.invariant-loop-at
invariant-loop-at l = (j : ℕ) → l.from ≤ j → j < l.at → is_held (slot_at l.slots j) ≡ true
