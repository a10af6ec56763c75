-- How many wait before an item, as far as its condition looks at it.
use Rattle.std.specs.Prelude.{ℕ, Bool, Option, length, ⊤}
use Rattle.machine.specs.declared.items.Delivery.{Delivery}
use Rattle.machine.specs.declared.state.Object.{Object}
use Rattle.machine.specs.Holds.{earlier, has_item, has_offer, has_place, has_room, has_slot, has_unit, is_free}
use Rattle.machine.specs.State.{State}
use Rattle.hub_items.specs.declared.waits.WaitKind.{WaitKind}
use Rattle.hub_items.specs.Lines.{IsAhead}

-- before an item with this since, which delivers this, so many wait in the line that its condition looks at
abbrev pub IsBefore : ℕ → State → ℕ → Delivery → Type 0
IsBefore before s since (Delivery.Wake g w) = IsAhead before (length s.objects) (λ test. earlier test since s.items) w
IsBefore before s since d = ⊤

-- who waits so holds, with so many before it in its line, and at this object
abbrev pub holds_in_line : WaitKind → ℕ → Option Object → Bool
holds_in_line WaitKind.Acquire = has_unit
holds_in_line WaitKind.Lock = is_free
holds_in_line WaitKind.Put = has_room
holds_in_line WaitKind.Take = has_item
holds_in_line WaitKind.Place = has_place
holds_in_line WaitKind.Slot = has_slot
holds_in_line WaitKind.TakeOffer = has_offer
