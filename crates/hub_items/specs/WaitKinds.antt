-- The kinds of waits whose waiters are served in order of parking.
use Rattle.std.specs.Prelude.{ℕ, Bool, true, false}
use Rattle.machine.specs.declared.items.Waiting.{Waiting}
use Rattle.machine.specs.Holds.{is_acquire, is_lock, is_put, is_take, is_place, is_slot, is_take_offer}
use Rattle.hub_items.specs.declared.waits.WaitKind.{WaitKind}

-- a wait of this kind, at the object of this number
abbrev pub test_of : WaitKind → ℕ → Waiting → Bool
test_of WaitKind.Acquire = is_acquire
test_of WaitKind.Lock = is_lock
test_of WaitKind.Put = is_put
test_of WaitKind.Take = is_take
test_of WaitKind.Place = is_place
test_of WaitKind.Slot = is_slot
test_of WaitKind.TakeOffer = is_take_offer

-- the two are one kind
abbrev pub same_kind : WaitKind → WaitKind → Bool
same_kind WaitKind.Acquire WaitKind.Acquire = true
same_kind WaitKind.Lock WaitKind.Lock = true
same_kind WaitKind.Put WaitKind.Put = true
same_kind WaitKind.Take WaitKind.Take = true
same_kind WaitKind.Place WaitKind.Place = true
same_kind WaitKind.Slot WaitKind.Slot = true
same_kind WaitKind.TakeOffer WaitKind.TakeOffer = true
same_kind a b = false
