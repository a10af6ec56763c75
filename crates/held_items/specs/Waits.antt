-- What an item waits for, as far as items are found by it: for ends, or for an object, there in a line or in none.
use Rattle.std.specs.Prelude.{ℕ, ◌+◌, ◌*◌, ◌==◌, ◌&&◌, Bool, true, false, List, [], ◌∷◌, Option, Some, None, is_none, option_map}
use Rattle.gv_values.specs.declared.value.Whom.{Whom}
use Rattle.machine.specs.declared.items.Delivery.{Delivery}
use Rattle.machine.specs.Holds.{wakes}
use Rattle.machine_settling.specs.Classes.{Class, class_of, is_at}
use Rattle.hub_items.specs.declared.waits.WaitKind.{WaitKind}
use Rattle.hub_items.specs.Lines.{line_of_delivery}
use Rattle.hub_items.specs.WaitKinds.{test_of}
use Rattle.held_items.specs.declared.waits.Target.{Target}
use Rattle.held_items.specs.declared.waits.TheConstants.{COLUMNS}

-- the item waits for the object of this number
abbrev pub waits_at : ℕ → Delivery → Bool
waits_at o d = is_at o (class_of d)

-- the item waits in the line of this kind at the object of this number
abbrev pub waits_in_line : WaitKind → ℕ → Delivery → Bool
waits_in_line kind o d = wakes (test_of kind o) d

-- the item waits for the object of this number, and in no line
abbrev pub waits_in_none : ℕ → Delivery → Bool
waits_in_none o d = waits_at o d && is_none (line_of_delivery d)

-- who is of this class waits for ends
abbrev pub is_of_ends : Class → Bool
is_of_ends (Class.OfEnds targets need) = true
is_of_ends c = false

-- ---- whose ends are waited for

-- the number of the greenlet or job
abbrev pub number_of : Whom → ℕ
number_of (Whom.Greenlet g) = g
number_of (Whom.Job j) = j

-- who waits for these ends waits for that of one alone, or for several
abbrev pub target_of : List Whom → Target
target_of (whom ∷ []) = Target.One (number_of whom)
target_of targets = Target.Several

-- the target of the class, where it is one of ends
abbrev pub target_of_class : Class → Option Target
target_of_class (Class.OfEnds targets need) = Some (target_of targets)
target_of_class c = None

-- both are several, or one of the same number
abbrev pub same_target : Target → Target → Bool
same_target Target.Several Target.Several = true
same_target (Target.One m) (Target.One n) = m == n
same_target a b = false

-- who is of this class waits for this target
abbrev pub is_for : Target → Class → Bool
is_for target (Class.OfEnds targets need) = same_target target (target_of targets)
is_for target c = false

-- the item waits for this target
abbrev pub waits_for : Target → Delivery → Bool
waits_for target d = is_for target (class_of d)

-- the place of the target in a table of all who wait for ends: at its begin are those who wait for several
abbrev pub target_place : Target → ℕ
target_place Target.Several = 0
target_place (Target.One n) = n + 1

-- where the item stands there, if it does
abbrev pub ends_key : Delivery → Option ℕ
ends_key d = option_map target_place (target_of_class (class_of d))

-- ---- one table of all who wait for objects

-- the column of the line
abbrev pub line_column : WaitKind → ℕ
line_column WaitKind.Acquire = 0
line_column WaitKind.Lock = 1
line_column WaitKind.Put = 2
line_column WaitKind.Take = 3
line_column WaitKind.Place = 4
line_column WaitKind.Slot = 5
line_column WaitKind.TakeOffer = 6

-- that of those in this line, or in none
abbrev pub wait_column : Option (WaitKind × ℕ) → ℕ
wait_column None = 7
wait_column (Some line) = line_column line.0

-- the place of this object and column
abbrev pub object_place : ℕ → ℕ → ℕ
object_place o column = o * COLUMNS + column

-- where those of this class and line stand
abbrev pub wait_place : Option (WaitKind × ℕ) → Class → Option ℕ
wait_place line (Class.AtObject o) = Some (object_place o (wait_column line))
wait_place line c = None

-- where the item stands there, if it does
abbrev pub waits_key : Delivery → Option ℕ
waits_key d = wait_place (line_of_delivery d) (class_of d)
