-- Where the hub stands in a run, step by step, where each turn is counted and takes one answer at most. This project's
-- own.
use Rattle.std.specs.Prelude.{◌≡◌, ℕ, ◌+◌, Bool, true, false, [], Some, slice_get}
use Rattle.gv_values.specs.declared.fault.FaultKind.{FaultKind}
use Rattle.gv_values.specs.declared.job.Answer.{Answer}
use Rattle.scenario_tree.specs.declared.tree.Scenario.{Scenario}
use Rattle.machine.specs.declared.items.Item.{Item}
use Rattle.machine.specs.State.{State}
use Rattle.machine.specs.Questions.{block_line, is_numbered, take_answer}
use Rattle.machine.specs.Deliveries.{deliver, interrupts}
use Rattle.machine.specs.Landing.{Next, lands, starts}
use Rattle.machine.specs.Moves.{move}
use Rattle.machine.specs.Run.{first_state, silent}

-- the steps of a run as of `Reached`; it is told whether the turn under way may still take its answer
pub data ReachedIn (c : Scenario) : Bool → Next → Type 0 where
  Started : ReachedIn c false (starts lands 0 [] (first_state c))
  Moved : (may : Bool) (g : ℕ) (s : State) → ReachedIn c may (Next.Going g s) → ReachedIn c may (move g (silent s))
  GaveOut : (may : Bool) (s : State) → ReachedIn c may (Next.Resting s) → ReachedIn c may (Next.Resting (silent s))
  Turned : (may : Bool) (s : State) → ReachedIn c may (Next.Resting s) → ReachedIn c true (Next.Resting (record s { turns = s.turns + 1 }))
  Delivered : (may : Bool) (n : ℕ) (i : Item) (s : State) → slice_get s.items n ≡ Some i → is_numbered i ≡ true → s ≡ silent s → ReachedIn c may (Next.Resting s) → ReachedIn c may (deliver i s)
  Blocked : (may : Bool) (s : State) → s ≡ silent s → ReachedIn c may (Next.Resting s) → ReachedIn c may (Next.Resting (block_line s))
  Exited : (may : Bool) (s : State) → s ≡ silent s → ReachedIn c may (Next.Resting s) → ReachedIn c may (interrupts 0 FaultKind.LoopExit (block_line s))
  Answered : (a : Answer) (s : State) → s ≡ silent s → ReachedIn c true (Next.Resting s) → ReachedIn c false (Next.Resting (take_answer a s))
  -- a turn need not take its answer
  Unanswered : (next : Next) → ReachedIn c true next → ReachedIn c false next
