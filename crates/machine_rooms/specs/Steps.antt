-- What pays for what a run counts. A move pays for twelve small steps, a greenlet for four when it is made and for three
-- when it ends; a step makes an item or numbers a timeout, posts a job, counts at an object, settles the state, or
-- delivers a kill. An item that stands keeps back what its delivery may take. This project's own.
use Rattle.std.specs.Prelude.{◌≡◌, ℕ, ◌+◌, ◌*◌, ◌≤◌, List, [], ◌∷◌, length, slice_get}
use Rattle.machine.specs.declared.items.Delivery.{Delivery}
use Rattle.machine.specs.declared.items.Item.{Item}
use Rattle.machine.specs.declared.items.Waiting.{Waiting}
use Rattle.machine.specs.declared.limits.TheConstants.{MOST_GREENLETS, MOST_KILLS, MOST_LINKS}
use Rattle.machine.specs.declared.state.Greenlet.{Greenlet}
use Rattle.machine.specs.declared.state.JobState.{JobState}
use Rattle.machine.specs.declared.state.Object.{Object}
use Rattle.machine.specs.declared.state.Phase.{Phase}
use Rattle.machine.specs.State.{State}
use Rattle.machine.specs.Landing.{Next}
use Rattle.machine.specs.Counts.{object_count}

-- ---- sums

-- the sum over the items
abbrev pub tally : (Delivery → ℕ) → List Item → ℕ
tally f [] = 0
tally f (i ∷ items) = f i.delivery + tally f items

-- the steps that the completion of a wait may take; a map that goes on may park again
abbrev pub wait_weight : Waiting → ℕ
wait_weight (Waiting.MapPlace o f xs made) = 6
wait_weight w = 2

-- the steps that an item keeps back for its delivery
abbrev pub weight : Delivery → ℕ
weight (Delivery.Wake g w) = wait_weight w
weight (Delivery.Link n g kind f) = 2
weight d = 0

-- one for each kill
abbrev pub kill : Delivery → ℕ
kill (Delivery.Kill g f) = 1
kill d = 0

-- one for each other item
abbrev pub other : Delivery → ℕ
other (Delivery.Kill g f) = 0
other d = 1

-- one where it has ended
abbrev pub gone : Phase → ℕ
gone (Phase.Done o) = 1
gone p = 0

-- how many greenlets have ended
abbrev pub ends : List Greenlet → ℕ
ends [] = 0
ends (x ∷ gs) = gone x.phase + ends gs

-- ---- steps that are left

-- the parts of a state on which its counts rest
pub record Counted : Type 0 where
  pub greenlets : List Greenlet
  pub links : ℕ
  pub items : List Item
  pub timeouts : ℕ
  pub jobs : List JobState
  pub objects : List Object
  pub next_since : ℕ
  pub next_ready : ℕ
  pub turns : ℕ
  pub moves : ℕ

abbrev pub counted : State → Counted
counted s =
    record {
      greenlets = s.greenlets;
      links = s.links;
      items = s.items;
      timeouts = s.timeouts;
      jobs = s.jobs;
      objects = s.objects;
      next_since = s.next_since;
      next_ready = s.next_ready;
      turns = s.turns;
      moves = s.moves;
    }

-- what is fixed within a step: the objects as they are declared, and how many answers, turns and moves there were
pub record Fixed : Type 0 where
  pub declared : List Object
  pub answers : ℕ
  pub turns : ℕ
  pub moves : ℕ

-- so many steps were taken, and so many more are left, beside those that items keep back
pub record HasStepsOf (b : Fixed) (left : ℕ) (x : Counted) : Type 0 where
  pub steps : ℕ
  -- moves and greenlets have paid for them; two are there from the beginning
  pub paid : steps + left + tally weight x.items ≤ 12 * x.moves + 4 * length x.greenlets + 3 * ends x.greenlets + 2
  pub greenlets : length x.greenlets ≤ MOST_GREENLETS
  pub links : x.links ≤ MOST_LINKS
  pub kills : tally kill x.items ≤ MOST_KILLS
  -- beside kills there are no more items than at the beginning of the step, and those that it made
  pub others : tally other x.items + left ≤ 11 * MOST_GREENLETS + MOST_LINKS + 12 + 4 * length x.greenlets + 3 * ends x.greenlets
  pub timeouts : x.timeouts ≤ steps
  pub jobs : length x.jobs ≤ steps
  pub objects : (o : ℕ) → object_count (slice_get x.objects o) ≤ object_count (slice_get b.declared o) + steps
  -- a kill is sent without a step: it stands, took one when it was delivered, or went with a greenlet that ended
  pub sinces : x.next_since ≤ 2 * steps + tally kill x.items + MOST_KILLS * ends x.greenlets
  -- a settling, which numbers at most so many items, takes a step or an answer
  pub numbers : x.next_ready ≤ 2 * MOST_KILLS * (steps + b.answers)
  pub turns : x.turns ≡ b.turns
  pub moves : x.moves ≡ b.moves

abbrev pub HasSteps : Fixed → ℕ → State → Type 0
HasSteps b left s = HasStepsOf b left (counted s)

-- Where the hub rests, two steps are left, with which a delivery begins. A greenlet that goes on may have taken them,
-- since a move of its own follows.
abbrev pub Stands : Fixed → Next → Type 0
Stands b (Next.Going g s) = HasSteps b 0 s
Stands b (Next.Resting s) = HasSteps b 2 s
Stands b (Next.Over cause s) = HasSteps b 0 s
