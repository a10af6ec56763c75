-- What a settling finds: who loses a number, and who gets one.
use Rattle.std.specs.Prelude.{◌≡◌, ◌==◌, ◌<◌, ◌≤◌, ℕ, not, ◌&&◌, ◌||◌, Bool, true, false, IsTrue, List, [], ◌∷◌, ◌++◌, Option, Some, None, is_some, is_none, if◌then◌else◌, length, map}
use Rattle.std.specs.List.{Contains, list_any}
use Rattle.std.specs.List.Sorted.{IsNonDecreasingBy, IsPermutation}
use Rattle.item_places.specs.Items.{Differ}
use Rattle.slot_chains.specs.Chained.{first_of}
use Rattle.machine.specs.declared.items.Delivery.{Delivery}
use Rattle.machine.specs.declared.items.Item.{Item}
use Rattle.machine.specs.Holds.{holds}
use Rattle.machine.specs.State.{State}
use Rattle.machine_settling.specs.Classes.{Class, class_of}
use Rattle.machine_settling.specs.Numbers.{gives_all, loses_number, needs_number, takes_all}
use Rattle.machine_settling.specs.Steps.{either}
use Rattle.held_items.specs.Entries.{Entry, SeenItems, index, item_in, slots_of}
use Rattle.held_items.specs.Moments.{slots_in}
use Rattle.held_items.specs.Waits.{is_for, target_of}
use Rattle.held_items.specs.declared.waits.Target.{Target}
use Rattle.hub_state.specs.Over.{with_held}
use Rattle.hub_state.specs.Touched.{SeenTouched}

-- those that lose their numbers, and those that get one: of each when it was made, and its slot; each list has room for
-- so many
pub record SeenFound : Type 0 where
  pub lost : List (ℕ × ℕ)
  pub gained : List (ℕ × ℕ)
  pub room : ℕ

-- nobody, and room for none
abbrev pub none_found : SeenFound
none_found = record { lost = []; gained = []; room = 0 }

-- nobody any more
abbrev pub emptied : SeenFound → SeenFound
emptied f = record f { lost = []; gained = [] }

-- each list has room for one more
pub record HasPlace (f : SeenFound) : Type 0 where
  pub lost : length f.lost < f.room
  pub gained : length f.gained < f.room

-- when they were made
abbrev pub sinces_in : List (ℕ × ℕ) → List ℕ
sinces_in ps = map (λ p. p.0) ps

-- one more, where it is to be listed
abbrev pub listed : Bool → ℕ × ℕ → List (ℕ × ℕ) → List (ℕ × ℕ)
listed b p ps = if b then ps ++ p ∷ [] else ps

-- the item of this slot too, of which it is said whether it holds, where it loses its number or gets one
abbrev pub noted : ℕ → Item → Bool → SeenFound → SeenFound
noted q i holds f = record f { lost = listed (not holds && is_some i.ready) (i.since, q) f.lost; gained = listed (holds && is_none i.ready) (i.since, q) f.gained }

-- ---- what was found of those that were looked at

-- an item that was made at this place stands in this slot; it was looked at, and passes the test
pub record IsFound (seen : Entry → Type 0) (test : Item → Bool) (es : List Entry) (p : ℕ × ℕ) : Type 0 where
  pub item : Item
  pub there : item_in p.1 es ≡ Some item
  pub since : item.since ≡ p.0
  pub looked : seen (p.1, item)
  pub passes : test item ≡ true

-- these are the items that were looked at and pass the test, each once
pub record AreFound (seen : Entry → Type 0) (test : Item → Bool) (es : List Entry) (ps : List (ℕ × ℕ)) : Type 0 where
  pub apart : Differ (slots_in ps)
  pub sound : (p : ℕ × ℕ) → Contains ps p → IsFound seen test es p
  pub complete : (q : ℕ) (i : Item) → item_in q es ≡ Some i → seen (q, i) → test i ≡ true → Contains (slots_in ps) q

-- of the items that were looked at, these lose their numbers, and those get one
pub record Finds (seen : Entry → Type 0) (s : State) (es : List Entry) (f : SeenFound) : Type 0 where
  pub lost : AreFound seen (loses_number (holds s)) es f.lost
  pub gained : AreFound seen (needs_number (holds s)) es f.gained

-- the item is of one of these classes
abbrev pub IsOf : (Class → Bool) → Entry → Type 0
IsOf classes e = IsTrue (classes (class_of e.1.delivery))

-- the items of these classes were looked at
abbrev pub HasFound : (Class → Bool) → State → List Entry → SeenFound → Type 0
HasFound classes = Finds (IsOf classes)

-- ---- what a look does

-- it waits for nothing
abbrev pub is_always : Class → Bool
is_always Class.Always = true
is_always c = false

-- it waits for a moment
abbrev pub is_moment : Class → Bool
is_moment (Class.AtMoment deadline) = true
is_moment c = false

-- an item that delivers this waits for nothing
abbrev pub waits_for_nothing : Delivery → Bool
waits_for_nothing d = is_always (class_of d)

-- the item of the slot too, where there is one that waits for nothing
abbrev pub noted_always : ℕ → Option Item → SeenFound → SeenFound
noted_always q None f = f
noted_always q (Some i) f = if waits_for_nothing i.delivery then noted q i true f else f

-- there is room for each item, and none of these classes was looked at yet, though others may have been
pub record MayLookAt (classes : Class → Bool) (s : State) (es : List Entry) (f : SeenFound) : Type 0 where
  pub apart : Differ (slots_of es)
  pub done : Class → Bool
  pub unseen : (c : Class) → IsTrue (classes c) → done c ≡ false
  pub found : HasFound done s es f
  pub room : length es ≤ f.room

-- where none of these classes was looked at, their items were now; the room stays
pub record LooksAt (classes : Class → Bool) (s : State) (es : List Entry) (old new : SeenFound) : Type 0 where
  pub finds : (done : Class → Bool) → ((c : Class) → IsTrue (classes c) → done c ≡ false) → HasFound done s es old → HasFound (either done classes) s es new
  pub room : new.room ≡ old.room

-- the item delivers what passes the test
abbrev pub Delivers : (Delivery → Bool) → Entry → Type 0
Delivers test e = IsTrue (test e.1.delivery)

-- there is room for each item, and none of those that pass this test was looked at yet, though others may have been
pub record MayLookAlong (test : Delivery → Bool) (s : State) (es : List Entry) (f : SeenFound) : Type 0 where
  pub apart : Differ (slots_of es)
  pub done : Delivery → Bool
  pub unseen : (d : Delivery) → IsTrue (test d) → done d ≡ false
  pub found : Finds (Delivers done) s es f
  pub room : length es ≤ f.room

-- where none of those that pass this test was looked at, they were now; the room stays
pub record LooksAlong (test : Delivery → Bool) (s : State) (es : List Entry) (old new : SeenFound) : Type 0 where
  pub finds : (done : Delivery → Bool) → ((d : Delivery) → IsTrue (test d) → done d ≡ false) → Finds (Delivers done) s es old → Finds (Delivers (λ d. done d || test d)) s es new
  pub room : new.room ≡ old.room

-- each item that passes this test has a number exactly where it holds
abbrev pub AgreesAlong : (Delivery → Bool) → State → List Entry → Type 0
AgreesAlong test s es = (q : ℕ) (i : Item) → item_in q es ≡ Some i → IsTrue (test i.delivery) → is_some i.ready ≡ holds s i

-- a walk over the items that pass this test stands here, and has passed by so many, each of which has a number exactly
-- where it holds
pub record PassesBy (test : Delivery → Bool) (s : State) (es : List Entry) (at : Option ℕ) (n : ℕ) : Type 0 where
  pub passed : List ℕ
  pub left : List ℕ
  pub is : index test es ≡ passed ++ left
  pub here : at ≡ first_of left None
  pub count : n ≡ length passed
  pub agrees : (q : ℕ) (i : Item) → item_in q es ≡ Some i → Contains passed q → is_some i.ready ≡ holds s i

-- the item in this slot passes the test and has a number; the one that follows it there has none
pub record IsLastNumbered (test : Delivery → Bool) (es : List Entry) (q : ℕ) : Type 0 where
  pub item : Item
  pub there : item_in q es ≡ Some item
  pub passes : test item.delivery ≡ true
  pub ready : is_some item.ready ≡ true
  pub last : (xs ys : List ℕ) (r : ℕ) (i : Item) → index test es ≡ xs ++ q ∷ ys → first_of ys None ≡ Some r → item_in r es ≡ Some i → is_some i.ready ≡ false

-- ---- numbers

-- an item that was made at this place is in this slot, and has a number, or none
pub record HasReady (numbered : Bool) (es : List Entry) (p : ℕ × ℕ) : Type 0 where
  pub item : Item
  pub there : item_in p.1 es ≡ Some item
  pub since : item.since ≡ p.0
  pub ready : is_some item.ready ≡ numbered

-- such items are in these slots, each once
pub record AreReady (numbered : Bool) (es : List Entry) (ps : List (ℕ × ℕ)) : Type 0 where
  pub apart : Differ (slots_in ps)
  pub there : (p : ℕ × ℕ) → Contains ps p → HasReady numbered es p

-- those that lose their numbers have none, and the others have the next, in order of making
pub record Numbers (old new : SeenFound) (before after : SeenItems) : Type 0 where
  pub moved : IsPermutation old.gained new.gained
  pub sorted : IsNonDecreasingBy (λ p. p.0) new.gained
  pub is : (s : State) → with_held after s ≡ gives_all (sinces_in new.gained) (takes_all (sinces_in old.lost) (with_held before s))

-- ---- the classes that are touched

-- several ends, where those who wait so are touched
abbrev pub for_several : Bool → Class → Bool
for_several touched c = is_for Target.Several c && touched

-- the target is one of these greenlets and jobs
abbrev pub is_one_of : List ℕ → Target → Bool
is_one_of ends (Target.One n) = list_any (λ m. n == m) ends
is_one_of ends Target.Several = false

-- one of these greenlets and jobs alone
abbrev pub for_one_of : List ℕ → Class → Bool
for_one_of ends (Class.OfEnds targets need) = is_one_of ends (target_of targets)
for_one_of ends c = false

-- one of these objects
abbrev pub at_objects : List ℕ → Class → Bool
at_objects objects (Class.AtObject o) = list_any (λ p. o == p) objects
at_objects objects c = false

-- all that was touched: what waits for nothing, ends and objects
abbrev pub touched_now : SeenTouched → Class → Bool
touched_now t = either (either (either is_always (for_several t.several)) (for_one_of t.ends)) (at_objects t.objects)
