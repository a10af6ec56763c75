-- No run comes far with what it counts. This project's own.
use Rattle.std.specs.Prelude.{◌≡◌, ℕ, ◌+◌, ◌<◌, ◌≤◌, Bool, Some, slice_get}
use Rattle.gv_values.specs.declared.fault.FaultKind.{FaultKind}
use Rattle.gv_values.specs.declared.job.Answer.{Answer}
use Rattle.gv_values.specs.declared.limits.TheConstants.{MOST_MOVES, MOST_TURNS}
use Rattle.scenario_tree.specs.declared.tree.Scenario.{Scenario}
use Rattle.scenario_rules.specs.Rules.{IsWellFormed}
use Rattle.machine.specs.declared.items.Item.{Item}
use Rattle.machine.specs.State.{State}
use Rattle.machine.specs.Budgets.{AreBudgets}
use Rattle.machine.specs.Deliveries.{deliver, interrupts, without_item}
use Rattle.machine.specs.Landing.{Next}
use Rattle.machine.specs.Moves.{move}
use Rattle.machine.specs.Questions.{block_line, take_answer}
use Rattle.machine.specs.Run.{Source, first_state, run_from, silent}
use Rattle.machine_trace_laws.specs.Reached.{Reached, state_of_next}
use Rattle.machine_rooms.specs.Counts.{AreCountable, AreFarBelow}
use Rattle.machine_rooms.specs.Rooms.{HasRoom, room_of_delivery, room_of_move}
use Rattle.machine_reached.specs.Few.{AreFew, AreFewNumbers}
use Rattle.machine_reached.specs.Turns.{ReachedIn}

-- ---- where the hub stands

-- counts are few wherever the hub comes to stand, whatever is answered
abbrev pub CountsAreFew : Type 0
CountsAreFew = (c : Scenario) (next : Next) → IsWellFormed c → Reached c next → AreFew (first_state c).objects (state_of_next next)

-- where each turn takes one answer at most, the ready numbers are few too
abbrev pub NumbersAreFew : Type 0
NumbersAreFew = (c : Scenario) (may : Bool) (next : Next) → IsWellFormed c → ReachedIn c may next → AreFewNumbers (state_of_next next)

-- so the hub comes to stand in a run whatever its turns take
abbrev pub TurnsAreSteps : Type 0
TurnsAreSteps = (c : Scenario) (may : Bool) (next : Next) → ReachedIn c may next → Reached c next

-- ---- turns and moves

-- a move is one more, of the same turn
pub record IsCountedOn (k : ℕ) (s t : State) : Type 0 where
  pub turns : t.turns ≡ s.turns
  pub moves : t.moves ≡ s.moves + k

abbrev pub MovesAreCounted : Type 0
MovesAreCounted = (c : Scenario) (g : ℕ) (s : State) → IsWellFormed c → Reached c (Next.Going g s) → IsCountedOn 1 s (state_of_next (move g (silent s)))

-- nothing else is a move
abbrev pub DeliveriesAreNoMoves : Type 0
DeliveriesAreNoMoves =
    (c : Scenario) (n : ℕ) (i : Item) (s : State) → IsWellFormed c → slice_get s.items n ≡ Some i → Reached c (Next.Resting s) → IsCountedOn 0 s (state_of_next (deliver i s))

abbrev pub ExitsAreNoMoves : Type 0
ExitsAreNoMoves =
    (c : Scenario) (s : State) → IsWellFormed c → Reached c (Next.Resting s) → IsCountedOn 0 s (state_of_next (interrupts 0 FaultKind.LoopExit (block_line s)))

abbrev pub AnswersAreNoMoves : Type 0
AnswersAreNoMoves = (c : Scenario) (answer : Answer) (s : State) → IsWellFormed c → Reached c (Next.Resting s) → IsCountedOn 0 s (take_answer answer s)

-- ---- room for a step

-- the hub stands so within the budgets that a run may be given, in a run whose objects are declared with counts that are
-- far below their types
pub record IsWithin (c : Scenario) (next : Next) : Type 0 where
  pub well_formed : IsWellFormed c
  pub countable : AreCountable (first_state c).objects
  pub may : Bool
  pub reached : ReachedIn c may next
  pub few_turns : (state_of_next next).turns ≤ MOST_TURNS
  pub few_moves : (state_of_next next).moves ≤ MOST_MOVES

-- there is room for what a move does after it is counted
abbrev pub MovesHaveRoom : Type 0
MovesHaveRoom = (c : Scenario) (g : ℕ) (s : State) → IsWithin c (Next.Going g s) → s.moves < MOST_MOVES → HasRoom room_of_move (record (silent s) { moves = s.moves + 1 })

-- and for what a delivery does after its item is taken
abbrev pub DeliveriesHaveRoom : Type 0
DeliveriesHaveRoom =
    (c : Scenario) (n : ℕ) (i : Item) (s : State) → IsWithin c (Next.Resting s) → slice_get s.items n ≡ Some i → HasRoom (room_of_delivery i.delivery) (without_item i s)

-- and for an answer or LoopExit
abbrev pub RestsHaveRoom : Type 0
RestsHaveRoom = (c : Scenario) (s : State) → IsWithin c (Next.Resting s) → HasRoom 2 s

-- ---- a whole run

-- the state is one in which the hub stands in the run, after no more turns and moves than these
pub record IsOfRun (c : Scenario) (turns moves : ℕ) (s : State) : Type 0 where
  pub may : Bool
  pub next : Next
  pub reached : ReachedIn c may next
  pub same : s ≡ silent (state_of_next next)
  pub few_turns : s.turns ≤ turns
  pub few_moves : s.moves ≤ moves

-- so is the last one of each run, wherever its answers come from
abbrev pub RunsStandIn : Type 0
RunsStandIn = (c : Scenario) (source : Source) (turns moves : ℕ) → IsWellFormed c → IsOfRun c turns moves (run_from source turns moves c).state

-- within the budgets that a run may be given each count is then far below what its type holds
abbrev pub RunsLeaveRoom : Type 0
RunsLeaveRoom =
    (c : Scenario) (source : Source) (turns moves : ℕ) → IsWellFormed c → AreCountable (first_state c).objects → AreBudgets turns moves →
    AreFarBelow (run_from source turns moves c).state
