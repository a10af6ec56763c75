-- What was touched since the last settling, and what is so of all that was not.
use Rattle.std.specs.Prelude.{◌≡◌, ℕ, ◌==◌, ◌<◌, ◌≤◌, ◌^◌, Bool, true, false, IsTrue, List, [], length, nat_lt, slice_get, Option, Some, None, IfSome, if◌then◌else◌, ⊤}
use Rattle.std.specs.List.{All, Contains, list_any}
use Rattle.machine.specs.declared.items.Item.{Item}
use Rattle.machine.specs.declared.items.Waiting.{Waiting}
use Rattle.machine.specs.declared.state.Object.{Object}
use Rattle.machine.specs.Deliveries.{waiting_of}
use Rattle.machine.specs.Questions.{is_numbered}
use Rattle.machine.specs.State.{State}
use Rattle.machine_settling.specs.Classes.{Class, class_of, class_of_wait}
use Rattle.machine_settling.specs.Fronts.{NumbersStandInFront}
use Rattle.machine_settling.specs.Locality.{AgreesOutside}
use Rattle.hub_items.specs.Sound.{IsSound}
use Rattle.hub_items.specs.declared.gone.Gone.{Gone}
use Rattle.held_items.specs.Waits.{target_of, target_of_class}
use Rattle.held_items.specs.declared.waits.Target.{Target}
use Rattle.held_items.specs.Entries.{Entry, SeenItems, flat}
use Rattle.number_set.specs.Sets.{inserted}

-- what contracts see of it: whether those who wait for several ends are touched, the numbers of the greenlets and jobs
-- of which those are who wait for one alone, the objects that were, and the slots of the items that were made; and the
-- numbers of greenlets and jobs, of objects and of slots below which each has a place
pub record SeenTouched : Type 0 where
  pub several : Bool
  pub ends : List ℕ
  pub objects : List ℕ
  pub made : List ℕ
  pub targets : ℕ
  pub rooms : ℕ
  pub slots : ℕ

-- those who wait for this target are touched
abbrev pub is_touched : SeenTouched → Target → Bool
is_touched t Target.Several = t.several
is_touched t (Target.One n) = list_any (λ m. n == m) t.ends

-- a settling looks at the class: it does so anyway, or what it waits for was touched
abbrev pub reopened : SeenTouched → Class → Bool
reopened t Class.Always = true
reopened t (Class.AtMoment deadline) = true
reopened t (Class.OfEnds targets need) = is_touched t (target_of targets)
reopened t (Class.AtObject o) = list_any (λ p. o == p) t.objects

-- ---- what is so of each item

-- where the class is that of a moment, it has come
abbrev pub HasCome : ℕ → Class → Type 0
HasCome moment (Class.AtMoment deadline) = deadline ≤ moment
HasCome moment c = ⊤

-- the item has no number, or the moment that it waits for has come
abbrev pub IsPast : ℕ → Item → Type 0
IsPast moment i = IsTrue (is_numbered i) → HasCome moment (class_of i.delivery)

-- the object of the class, if it is that of one
abbrev pub awaited : Class → Option ℕ
awaited (Class.AtObject o) = Some o
awaited c = None

-- where it is one greenlet or job alone, it has a place among so many
abbrev pub HasTarget : ℕ → Option Target → Type 0
HasTarget targets (Some (Target.One n)) = n < targets
HasTarget targets (Some Target.Several) = ⊤
HasTarget targets None = ⊤

-- what those of the class wait for has a place, be it an object, or one greenlet or job alone
abbrev pub HasPlaces : SeenTouched → Class → Type 0
HasPlaces t c = IfSome (awaited c) (λ o. o < t.rooms) × HasTarget t.targets (target_of_class c)

-- what the item waits for has a place
abbrev pub HasMark : SeenTouched → Item → Type 0
HasMark t i = HasPlaces t (class_of i.delivery)

-- ---- what is so of the state

-- of the classes that a settling doesn't look at, each item has a number exactly where it holds; in each line those with
-- a number stand in front; the moments have come of those that have numbers; and each object has a place, and whatever is
-- waited for, whether it is there or not
pub record IsUpToDate (t : SeenTouched) (s : State) : Type 0 where
  pub agrees : AgreesOutside (reopened t) s
  pub front : NumbersStandInFront s
  pub past : All (IsPast s.moment) s.items
  pub marked : All (HasMark t) s.items
  pub rooms : length s.objects ≤ t.rooms

-- what waits for nothing and has no number is in one of these slots
abbrev pub IsMade : List ℕ → Entry → Type 0
IsMade made e = class_of e.1.delivery ≡ Class.Always → e.1.ready ≡ None → Contains made e.0

-- what waits for nothing and has no number was made since the last settling
abbrev pub IsPending : List ℕ → List Entry → Type 0
IsPending made es = All (IsMade made) es

-- the items of the hub are sound, and it is up to date with what was touched; the number of an object fits 32 bits
pub record IsKept (held : SeenItems) (t : SeenTouched) (s : State) : Type 0 where
  pub sound : IsSound (flat held.entries)
  pub current : IsUpToDate t s
  pub pending : IsPending t.made held.entries
  pub few : length s.objects ≤ 2 ^ 32

-- ---- what is touched more

-- nothing, and there is no place
abbrev pub none_touched : SeenTouched
none_touched = record { several = false; ends = []; objects = []; made = []; targets = 0; rooms = 0; slots = 0 }

-- the same is touched, and each place is there still
pub record IsRoomier (old new : SeenTouched) : Type 0 where
  pub several : new.several ≡ old.several
  pub ends : new.ends ≡ old.ends
  pub objects : new.objects ≡ old.objects
  pub made : new.made ≡ old.made
  pub targets : old.targets ≤ new.targets
  pub rooms : old.rooms ≤ new.rooms
  pub slots : old.slots ≤ new.slots

-- the object of this number too, if it has a place; what has none is no object, and nobody waits for it
abbrev pub with_touched : Option ℕ → SeenTouched → SeenTouched
with_touched None t = t
with_touched (Some o) t = if nat_lt o t.rooms then record t { objects = inserted o t.objects } else t

-- those who wait for this target too, if it has a place; for what has none nobody waits
abbrev pub with_target : Option Target → SeenTouched → SeenTouched
with_target None t = t
with_target (Some Target.Several) t = record t { several = true }
with_target (Some (Target.One n)) t = if nat_lt n t.targets then record t { ends = inserted n t.ends } else t

-- those too who wait for the greenlet or job of this number, alone or among several, if it has ended
abbrev pub with_end : Bool → ℕ → SeenTouched → SeenTouched
with_end ended n t = if ended then with_target (Some (Target.One n)) (with_target (Some Target.Several) t) else t

-- the slot of an item that was made too, if it has a place
abbrev pub with_made : ℕ → SeenTouched → SeenTouched
with_made q t = if nat_lt q t.slots then record t { made = inserted q t.made } else t

-- each of the first n objects too that passes the test, if it has a place
pub record HasTouched (test : Option Object → Bool) (objects : List Object) (n : ℕ) (old new : SeenTouched) : Type 0 where
  pub several : new.several ≡ old.several
  pub ends : new.ends ≡ old.ends
  pub made : new.made ≡ old.made
  pub targets : new.targets ≡ old.targets
  pub rooms : new.rooms ≡ old.rooms
  pub still : (o : ℕ) → IsTrue (reopened old (Class.AtObject o)) → IsTrue (reopened new (Class.AtObject o))
  pub each : (o : ℕ) → o < n → o < old.rooms → IsTrue (test (slice_get objects o)) → IsTrue (reopened new (Class.AtObject o))

-- nothing, after a settling; the places stay
abbrev pub untouched : SeenTouched → SeenTouched
untouched t = record t { several = false; ends = []; objects = []; made = [] }

-- ---- what is waited for

-- what the class waits for too, where such an item holds
abbrev pub with_waited : Bool → Class → SeenTouched → SeenTouched
with_waited holds c t = if holds then with_touched (awaited c) (with_target (target_of_class c) t) else t

-- the object of the wait, if there is one
abbrev pub waited_at : Option Waiting → Option ℕ
waited_at None = None
waited_at (Some w) = awaited (class_of_wait w)

-- the object at which the Wake waits that `gone` names, if it names one
abbrev pub left_by : Gone → List Item → Option ℕ
left_by (Gone.WaitOf g) items = waited_at (waiting_of g items)
left_by (Gone.AtEnd g o) items = waited_at (waiting_of g items)
left_by gone items = None
