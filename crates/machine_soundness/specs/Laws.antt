-- The machine keeps its states sound. This project's own.
use Rattle.std.specs.Prelude.{◌≡◌, ◌≤◌, ◌==◌, ℕ, Bool, true, false, [], Some, slice_get, count_by}
use Rattle.gv_values.specs.declared.fault.FaultKind.{FaultKind}
use Rattle.gv_values.specs.declared.job.Answer.{Answer}
use Rattle.scenario_tree.specs.declared.tree.Scenario.{Scenario}
use Rattle.machine.specs.declared.items.Delivery.{Delivery}
use Rattle.machine.specs.declared.items.Item.{Item}
use Rattle.machine.specs.State.{State}
use Rattle.machine.specs.Questions.{take_answer}
use Rattle.machine.specs.Deliveries.{deliver, interrupts}
use Rattle.machine.specs.Landing.{starts, lands}
use Rattle.machine.specs.Moves.{move}
use Rattle.machine.specs.Run.{first_state}
use Rattle.machine_soundness.specs.Going.{IsKept, IsGoing, IsSoundAt, is_meant_move, has_no_wait}

-- main starts
abbrev pub StartsSoundly : Type 0
StartsSoundly = (c : Scenario) → IsSoundAt (starts lands 0 [] (first_state c))

-- a greenlet that may go on makes a move that a scenario may have
abbrev pub MovesSoundly : Type 0
MovesSoundly = (g : ℕ) (s : State) → is_meant_move g s ≡ true → IsKept s → IsGoing g s → IsSoundAt (move g s)

-- an item of the state is delivered
abbrev pub DeliversSoundly : Type 0
DeliversSoundly = (at : ℕ) (i : Item) (s : State) → slice_get s.items at ≡ Some i → IsKept s → IsSoundAt (deliver i s)

-- LoopExit is thrown into main
abbrev pub ExitsSoundly : Type 0
ExitsSoundly = (s : State) → IsKept s → IsSoundAt (interrupts 0 FaultKind.LoopExit s)

-- an answer is taken
abbrev pub AnswersSoundly : Type 0
AnswersSoundly = (answer : Answer) (s : State) → IsKept s → IsKept (take_answer answer s)

-- it is the Wake of the greenlet
abbrev pub is_wake_of : ℕ → Delivery → Bool
is_wake_of g (Delivery.Wake h w) = g == h
is_wake_of g d = false

-- it is the Late of the greenlet
abbrev pub is_late_of : ℕ → Delivery → Bool
is_late_of g (Delivery.Late h deadline n) = g == h
is_late_of g d = false

-- at most one Wake and one Late is of each greenlet
pub record IsParkedOnce (g : ℕ) (s : State) : Type 0 where
  pub wakes : count_by (λ i. is_wake_of g i.delivery) s.items ≤ 1
  pub lates : count_by (λ i. is_late_of g i.delivery) s.items ≤ 1

-- each greenlet is parked at most once
abbrev pub ParksOnce : Type 0
ParksOnce = (g : ℕ) (s : State) → IsKept s → IsParkedOnce g s

-- the greenlet under way has no wait of its own
abbrev pub GoesUnparked : Type 0
GoesUnparked = (g : ℕ) (s : State) → IsKept s → IsGoing g s → has_no_wait g s.items ≡ true
