-- Room for the small steps of a move or a delivery, in a run within the budgets that it may be given. This project's own.
use Rattle.std.specs.Prelude.{ℕ, ◌+◌, ◌≤◌}
use Rattle.gv_values.specs.declared.limits.TheConstants.{MOST_MOVES, MOST_TURNS}
use Rattle.machine.specs.declared.items.Delivery.{Delivery}
use Rattle.machine.specs.State.{State}
use Rattle.machine_rooms.specs.Counts.{AreCountable, AreFarBelow}
use Rattle.machine_rooms.specs.Steps.{Fixed, HasSteps, weight}

-- so many small steps may still be taken
pub record HasRoom (left : ℕ) (s : State) : Type 0 where
  pub fixed : Fixed
  pub few_moves : fixed.moves ≤ MOST_MOVES
  pub few_answers : fixed.answers ≤ MOST_TURNS
  pub countable : AreCountable fixed.declared
  pub steps : HasSteps fixed left s

-- the steps that a move may take, once it is counted
abbrev pub room_of_move : ℕ
room_of_move = 12

-- those that a delivery may take, once its item is taken
abbrev pub room_of_delivery : Delivery → ℕ
room_of_delivery (Delivery.Kill g f) = 1
room_of_delivery d = 2 + weight d

-- where there is room, in the midst of a step too, each count is far below what its type holds
abbrev pub RoomIsAmple : Type 0
RoomIsAmple = (left : ℕ) (s : State) → HasRoom left s → AreFarBelow s
