-- What a wait that completes, or a request, does to an object (gevent API reference, the class of the same meaning).
use Rattle.std.specs.Prelude.{ℕ, zero, suc, ◌+◌, ◌-◌, ◌==◌, Bool, true, false, not, List, [], ◌∷◌, length, Option, Some, None, if◌then◌else◌, slice_get, slice_set, nat_lt, unwrap_or, ℤ, ◌++◌, filter, take, drop, int_lt}
use Rattle.scenario_tree.specs.declared.tree.QueueKind.{QueueKind}
use Rattle.gv_values.specs.declared.value.Value.{Value}
use Rattle.machine.specs.declared.state.Object.{Object}
use Rattle.scenario_tree.specs.declared.tree.Declaration.{Declaration}
use Rattle.machine.specs.State.{State, Name}
use Rattle.machine.specs.Holds.{is_offer_of}

-- an event that is set once more, or cleared
abbrev pub with_flag : Bool → Object → Object
with_flag true (Object.Event flag sets) = Object.Event true (sets + 1)
with_flag false (Object.Event flag sets) = Object.Event false sets
with_flag b object = object

-- how many times the event was set
abbrev pub sets_of : Object → ℕ
sets_of (Object.Event flag sets) = sets
sets_of object = 0

-- a bounded semaphore that is at its bound
abbrev pub at_bound : ℕ → Option ℕ → Bool
at_bound counter None = false
at_bound counter (Some bound) = counter == bound

-- a lock that was acquired as often as it was released is free
abbrev pub after_release : ℕ → ℕ → Option ℕ
after_release g zero = None
after_release g (suc depth) = Some g

-- a priority queue takes integers alone
abbrev pub takes_value : Object → Value → Bool
takes_value (Object.Queue QueueKind.Priority size items unfinished shut) (Value.Int z) = true
takes_value (Object.Queue QueueKind.Priority size items unfinished shut) v = false
takes_value object v = true

-- the queue is shut; with `immediate` its items go, and with each of them an unfinished task, as long as there is one
abbrev pub with_shut : Bool → Object → Object
with_shut false (Object.Queue kind size items unfinished shut) = Object.Queue kind size items unfinished true
with_shut true (Object.Queue kind size items unfinished shut) = Object.Queue kind size [] (unfinished - length items) true
with_shut immediate object = object

-- the members in order of admission
abbrev pub members_of : Object → List ℕ
members_of (Object.Crew size members) = members
members_of object = []

-- a group or pool without this member
abbrev pub without_member : ℕ → Object → Object
without_member g (Object.Crew size members) = Object.Crew size (filter (λ h. not (h == g)) members)
without_member g object = object

-- the state with this in place of the object
abbrev pub with_object : ℕ → Object → State → State
with_object o object s = record s { objects = slice_set s.objects o object }

-- in place of an object that is not declared
abbrev pub no_object : Object
no_object = Object.Event false 0

-- the object of this number
abbrev pub object_at : ℕ → State → Object
object_at o s = unwrap_or (slice_get s.objects o) no_object

-- the name at this place of the declarations, which is empty where none is
abbrev pub name_at : ℕ → List Declaration → Name
name_at o ds = elim (slice_get ds o) [ None ↦ [] | Some d ↦ d.name ]

-- the name of the object of this number
abbrev pub name_of_object : ℕ → State → Name
name_of_object o s = name_at o s.scenario.objects

-- the place of the least integer
abbrev pub least_from : ℕ → ℕ → ℤ → List Value → ℕ
least_from place best z [] = best
least_from place best z (Value.Int y ∷ vs) = if int_lt y z then least_from (place + 1) place y vs else least_from (place + 1) best z vs
least_from place best z (v ∷ vs) = least_from (place + 1) best z vs

-- the place of the least integer, of equal ones the first
abbrev pub least_place : List Value → ℕ
least_place (Value.Int z ∷ vs) = least_from 1 0 z vs
least_place vs = 0

-- the place of the item that is next: the oldest, the newest, or the least
abbrev pub next_place : QueueKind → List Value → ℕ
next_place QueueKind.Fifo vs = 0
next_place QueueKind.Join vs = 0
next_place QueueKind.Lifo vs = length vs - 1
next_place QueueKind.Priority vs = least_place vs

-- the item that is next
abbrev pub next_value : QueueKind → List Value → Value
next_value kind vs = unwrap_or (slice_get vs (next_place kind vs)) Value.Nothing

-- the items without the one that is next
abbrev pub without_next : QueueKind → List Value → List Value
without_next kind vs = take (next_place kind vs) vs ++ drop (next_place kind vs + 1) vs

-- a semaphore with one unit less
abbrev pub with_unit_taken : Object → Object
with_unit_taken (Object.Semaphore counter bound) = Object.Semaphore (counter - 1) bound
with_unit_taken object = object

-- a lock that this greenlet owns, once more
abbrev pub with_owner : ℕ → Object → Object
with_owner g (Object.Lock owner depth) = Object.Lock (Some g) (depth + 1)
with_owner g object = object

-- a queue with one item and one unfinished task more
abbrev pub with_item : Value → Object → Object
with_item v (Object.Queue kind size items unfinished shut) = Object.Queue kind size (items ++ v ∷ []) (unfinished + 1) shut
with_item v object = object

-- a queue without the item that is next
abbrev pub with_item_taken : Object → Object
with_item_taken (Object.Queue kind size items unfinished shut) = Object.Queue kind size (without_next kind items) unfinished shut
with_item_taken object = object

-- the item of a queue that is next
abbrev pub item_of : Object → Value
item_of (Object.Queue kind size items unfinished shut) = next_value kind items
item_of object = Value.Nothing

-- a group or pool with one member more
abbrev pub with_member : ℕ → Object → Object
with_member g (Object.Crew size members) = Object.Crew size (members ++ g ∷ [])
with_member g object = object

-- a native pool with one outstanding job more
abbrev pub with_slot_taken : Object → Object
with_slot_taken (Object.Native slots outstanding) = Object.Native slots (outstanding + 1)
with_slot_taken object = object

-- it is shut
abbrev pub is_shut : Object → Bool
is_shut (Object.Queue kind size items unfinished shut) = shut
is_shut object = false

-- the getters before are fewer than the items: one is left for this getter
abbrev pub is_left : ℕ → Object → Bool
is_left before (Object.Queue kind size items unfinished shut) = nat_lt before (length items)
is_left before object = false

-- a channel with one offer more
abbrev pub with_offer : Value → ℕ → Object → Object
with_offer v since (Object.Channel offers) = Object.Channel (offers ++ record { value = v; since = since } ∷ [])
with_offer v since object = object

-- a channel without its oldest offer
abbrev pub with_offer_taken : Object → Object
with_offer_taken (Object.Channel offers) = Object.Channel (drop 1 offers)
with_offer_taken object = object

-- the value of the oldest offer of a channel
abbrev pub offer_of : Object → Value
offer_of (Object.Channel (offer ∷ offers)) = offer.value
offer_of object = Value.Nothing

-- a channel without the offer of the Wake with this since
abbrev pub without_offer : ℕ → Object → Object
without_offer since (Object.Channel offers) = Object.Channel (filter (λ offer. not (is_offer_of since offer)) offers)
without_offer since object = object

-- a native pool with one outstanding job less
abbrev pub with_slot_freed : Object → Object
with_slot_freed (Object.Native slots outstanding) = Object.Native slots (outstanding - 1)
with_slot_freed object = object
