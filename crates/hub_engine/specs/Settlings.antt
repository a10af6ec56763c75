-- Room in a step for the settlings that it may still bring.
use Rattle.std.specs.Prelude.{◌+◌, ◌*◌, ◌<◌, ◌≤◌, ◌^◌, ℕ, length}
use Rattle.machine.specs.declared.state.Frame.{Frame}
use Rattle.machine.specs.declared.state.Phase.{Phase}
use Rattle.machine.specs.Greenlets.{with_phase}
use Rattle.machine.specs.State.{State}
use Rattle.machine_rooms.specs.Rooms.{HasRoom, room_of_move}

-- no landing goes up more often
abbrev pub most_hops : ℕ
most_hops = 2 ^ 32

-- no more items stand in a step
abbrev pub most_items : ℕ
most_items = 2 ^ 29

-- so many settlings may follow, each of which numbers each item at most
pub record MaySettle (times : ℕ) (s : State) : Type 0 where
  pub items : length s.items ≤ most_items
  pub numbers : s.next_ready + most_items * times ≤ 2 ^ 63

-- there is room for a move of the greenlet, whatever body it has
pub record HasMoveRoom (g : ℕ) (s : State) : Type 0 where
  pub any : (frame : Frame) → HasRoom room_of_move (with_phase g (Phase.Live frame) s)

-- so there is after each of so many moves is counted
pub record HasMovesRoom (most g : ℕ) (s : State) : Type 0 where
  pub each : (n : ℕ) → n < most → HasMoveRoom g (record s { moves = s.moves + (n + 1) })
