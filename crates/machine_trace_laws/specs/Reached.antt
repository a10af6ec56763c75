-- Where the hub stands in a run, step by step, whatever is answered. This project's own.
use Rattle.std.specs.Prelude.{◌≡◌, ℕ, true, [], Some, slice_get}
use Rattle.gv_values.specs.declared.fault.FaultKind.{FaultKind}
use Rattle.gv_values.specs.declared.job.Answer.{Answer}
use Rattle.scenario_tree.specs.declared.tree.Scenario.{Scenario}
use Rattle.machine.specs.declared.items.Item.{Item}
use Rattle.machine.specs.State.{State}
use Rattle.machine.specs.Questions.{block_line, is_numbered, take_answer}
use Rattle.machine.specs.Deliveries.{deliver, interrupts}
use Rattle.machine.specs.Landing.{Next, lands, starts}
use Rattle.machine.specs.Moves.{move}
use Rattle.machine.specs.Run.{first_state, silent}

-- the hub of the scenario comes to stand so: main starts, a greenlet makes its next move, what was said is given out, a
-- turn is counted, an item that has its number is delivered, a block line is said, LoopExit is thrown into main after
-- one, or an answer is taken, whatever it is
pub data Reached (c : Scenario) : Next → Type 0 where
  Started : Reached c (starts lands 0 [] (first_state c))
  Moved : (g : ℕ) (s : State) → Reached c (Next.Going g s) → Reached c (move g (silent s))
  GaveOut : (s : State) → Reached c (Next.Resting s) → Reached c (Next.Resting (silent s))
  Turned : (n : ℕ) (s : State) → Reached c (Next.Resting s) → Reached c (Next.Resting (record s { turns = n }))
  Delivered : (n : ℕ) (i : Item) (s : State) → slice_get s.items n ≡ Some i → is_numbered i ≡ true → s ≡ silent s → Reached c (Next.Resting s) → Reached c (deliver i s)
  Blocked : (s : State) → s ≡ silent s → Reached c (Next.Resting s) → Reached c (Next.Resting (block_line s))
  Exited : (s : State) → s ≡ silent s → Reached c (Next.Resting s) → Reached c (interrupts 0 FaultKind.LoopExit (block_line s))
  Answered : (a : Answer) (s : State) → s ≡ silent s → Reached c (Next.Resting s) → Reached c (Next.Resting (take_answer a s))

-- the state in which the hub stands
abbrev pub state_of_next : Next → State
state_of_next (Next.Going g s) = s
state_of_next (Next.Resting s) = s
state_of_next (Next.Over cause s) = s
