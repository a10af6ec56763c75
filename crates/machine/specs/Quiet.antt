-- A state is quiet where nothing waits on what is there, each waiter taken as the first of its kind. The project's own.
use Rattle.std.specs.Prelude.{ℕ, Bool, not, slice_get}
use Rattle.std.specs.List.{list_any}
use Rattle.machine.specs.declared.items.Delivery.{Delivery}
use Rattle.machine.specs.declared.items.Waiting.{Waiting}
use Rattle.machine.specs.State.{State}
use Rattle.machine.specs.Holds.{wait_holds, delivery_holds, has_unit, is_free, has_room, has_item, has_place, has_slot, has_offer}

-- the wait with this since holds as though no other waited before it
abbrev pub could_go_on : State → ℕ → Waiting → Bool
could_go_on s since (Waiting.Acquire o) = has_unit 0 (slice_get s.objects o)
could_go_on s since (Waiting.Lock o) = is_free 0 (slice_get s.objects o)
could_go_on s since (Waiting.Put o v) = has_room 0 (slice_get s.objects o)
could_go_on s since (Waiting.Take o) = has_item 0 (slice_get s.objects o)
could_go_on s since (Waiting.Peek o) = has_item 0 (slice_get s.objects o)
could_go_on s since (Waiting.Place o f vs) = has_place 0 (slice_get s.objects o)
could_go_on s since (Waiting.MapPlace o f xs made) = has_place 0 (slice_get s.objects o)
could_go_on s since (Waiting.Slot o job takes) = has_slot 0 (slice_get s.objects o)
could_go_on s since (Waiting.TakeOffer o) = has_offer 0 (slice_get s.objects o)
-- no other wait has ranks
could_go_on s since w = wait_holds s since w

-- the item could be delivered as though it were the first of its kind
abbrev pub is_restless : State → ℕ → Delivery → Bool
is_restless s since (Delivery.Wake g w) = could_go_on s since w
is_restless s since d = delivery_holds s since d

-- no item could be delivered
abbrev pub is_quiet : State → Bool
is_quiet s = not (list_any (λ i. is_restless s i.since i.delivery) s.items)
