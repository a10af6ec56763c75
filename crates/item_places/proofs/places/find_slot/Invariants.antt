use Rattle.std.proofs.Common.{ℕ, ◌<◌, ◌≤◌}
use Rattle.item_places.specs.Table.{HeldAt}
use Rattle.item_places.proofs.places.find_slot.Given as goal

abbrev pub invariant-loop-at : goal.invariant-loop-at
invariant-loop-at l = (p k : ℕ) → HeldAt l.slots p l.item k → l.from ≤ p → p < l.at → ⊥
