-- Lines hold from the front: where one who waits in a line doesn't hold, none behind it does. So those with a number
-- stand in front of those without, after every settling and every step that follows it. This project's own.
use Rattle.std.specs.Prelude.{◌≡◌, ◌≤◌, ℕ, Bool, true, false, IsTrue, ◌||◌, map}
use Rattle.std.specs.List.{All, Contains}
use Rattle.machine.specs.declared.items.Delivery.{Delivery}
use Rattle.machine.specs.declared.items.Item.{Item}
use Rattle.machine.specs.declared.items.Waiting.{Waiting}
use Rattle.machine.specs.State.{State}
use Rattle.machine.specs.Holds.{holds, is_acquire, is_lock, is_place, is_put, is_slot, is_take, is_take_offer, wakes}
use Rattle.machine.specs.Questions.{is_numbered}
use Rattle.machine.specs.Settle.{settle}
use Rattle.machine_settling.specs.Classes.{class_of}
use Rattle.machine_settling.specs.Lasting.{is_off_objects}
use Rattle.machine_settling.specs.Numbers.{IsAscending, gives_number, takes_number}
use Rattle.machine_settling.specs.Steps.{Step, after}

-- the waits of the line that this one stands in: those of its kind at its object; who waits in no order is in none
abbrev pub line_with : Waiting → Waiting → Bool
line_with (Waiting.Acquire o) = is_acquire o
line_with (Waiting.Lock o) = is_lock o
line_with (Waiting.Put o v) = is_put o
line_with (Waiting.Take o) = is_take o
line_with (Waiting.Place o f args) = is_place o
line_with (Waiting.MapPlace o f xs made) = is_place o
line_with (Waiting.Slot o job takes) = is_slot o
line_with (Waiting.TakeOffer o) = is_take_offer o
line_with w = λ v. false

-- the two are waits of one line
abbrev pub in_one_line : Delivery → Delivery → Bool
in_one_line (Delivery.Wake g w) e = wakes (line_with w) e
in_one_line d e = false

-- the item stands in one line with the other, in front of it
pub record IsInFront (i j : Item) : Type 0 where
  pub line : in_one_line i.delivery j.delivery ≡ true
  pub older : i.since ≤ j.since

-- where one of a line holds, those in front of it do
abbrev pub LinesHoldInFront : Type 0
LinesHoldInFront = (s : State) (i j : Item) → IsInFront i j → IsTrue (holds s j) → IsTrue (holds s i)

-- ---- who has a number

-- if the other, which stands behind it in its line, has a number, it has one
abbrev pub IsNumberedBefore : Item → Item → Type 0
IsNumberedBefore i j = IsInFront i j → IsTrue (is_numbered j) → IsTrue (is_numbered i)

-- where one of a line has a number, those in front of it have one
abbrev pub NumbersStandInFront : State → Type 0
NumbersStandInFront s = All (λ i. All (IsNumberedBefore i) s.items) s.items

-- a step keeps it
abbrev pub StepsKeepFront : Type 0
StepsKeepFront = (step : Step) (s : State) → IsAscending s → NumbersStandInFront s → NumbersStandInFront (after step s)

-- it is so after every settling
abbrev pub SettlingKeepsFront : Type 0
SettlingKeepsFront = (s : State) → NumbersStandInFront (settle s)

-- the second is the first, but for its number where it waits for no object
pub record IsStill (i j : Item) : Type 0 where
  pub since : j.since ≡ i.since
  pub delivery : j.delivery ≡ i.delivery
  pub ready : is_off_objects (class_of i.delivery) ≡ false → j.ready ≡ i.ready

-- numbers of items that wait for no object are taken or given, any of them
abbrev pub OthersKeepFront : Type 0
OthersKeepFront = (change : Item → Item) (s : State) → All (λ i. IsStill i (change i)) s.items → NumbersStandInFront s → NumbersStandInFront (record s { items = map change s.items })

-- or one of them
abbrev pub OneKeepsFront : Type 0
OneKeepsFront =
    (since : ℕ) (s : State) → All (λ i. i.since ≡ since → IsTrue (is_off_objects (class_of i.delivery))) s.items → NumbersStandInFront s
    → NumbersStandInFront (takes_number since s) × NumbersStandInFront (gives_number since s)

-- it holds, or it has a number
abbrev pub is_open : State → Item → Bool
is_open s i = holds s i || is_numbered i

-- a walk over a line may stop at the first that neither holds nor has a number: so it is of all behind it
abbrev pub WalksMayStop : Type 0
WalksMayStop =
    (s : State) (i j : Item) → NumbersStandInFront s → Contains s.items i → Contains s.items j → IsInFront i j → is_open s i ≡ false
    → is_open s j ≡ false
