-- The scenario of a state is the one that its run began with.
use Rattle.std.proofs.Common.{◌≡◌, refl, ap, ◌∙◌, ℕ, Bool, true, false, []}
use Rattle.std.specs.Prelude.{Option, Some, None, if◌then◌else◌}
use Rattle.gv_values.specs.declared.fault.FaultKind.{FaultKind}
use Rattle.gv_values.specs.declared.job.Answer.{Answer}
use Rattle.gv_values.specs.declared.job.JobOutcome.{JobOutcome}
use Rattle.scenario_tree.specs.declared.tree.Scenario.{Scenario}
use Rattle.trace_text.specs.declared.line.Blocked.{Blocked}
use Rattle.trace_text.specs.declared.line.Line.{Line}
use Rattle.world_rules.specs.Legal.{moment_of}
use Rattle.machine.specs.declared.state.JobState.{JobState}
use Rattle.machine.specs.State.{State, say}
use Rattle.machine.specs.Questions.{any_numbered, arrives, block_line, job_done, take_answer}
use Rattle.machine.specs.Deliveries.{deliver, without_item}
use Rattle.machine.specs.Holds.{job_at}
use Rattle.machine.specs.Landing.{Next, lands}
use Rattle.machine.specs.Run.{first_state, silent}
use Rattle.machine_turns.proofs.Steps.{Core, Keeps, Stands, delivers-keeps, interrupts-keeps, lands-keeps, move-keeps, starts-keeps}
use Rattle.machine_trace_laws.specs.Reached.{Reached, state_of_next}

abbrev Same : Scenario → State → Type 0
Same c s = s.scenario ≡ c

same-kept : (c : Scenario) → Keeps (Same c)
same-kept c =
    record {
      says = λ line s step e. e;
      adds = λ d s e. e;
      drops = λ test s e. e;
      settles = λ s e. e;
      posts = λ g o job takes s e. e;
      alike = λ s t e h. ap (λ (x : Core). x.scenario) e ∙ h;
    }

block-same : (c : Scenario) (s : State) → Same c s → Same c (block_line s)
block-same c s e = by (any_numbered s.items) _
  where
    by : (b : Bool) (x : Blocked) → Same c (if b then s else say (Line.Block x) s)
    by true x = e
    by false x = e

arrives-same : (c : Scenario) (j : ℕ) (o : JobOutcome) (job : Option JobState) (s : State) → Same c s → Same c (arrives j o job s)
arrives-same c j o None s e = e
arrives-same c j o (Some job) s e = e

done-same : (c : Scenario) (a : Answer) (s : State) → Same c s → Same c (job_done a s)
done-same c (Answer.Done j o at) s e = arrives-same c j o (job_at j s.jobs) s e
done-same c (Answer.Elapsed at) s e = e
done-same c (Answer.Nothing at) s e = e

answer-same : (c : Scenario) (a : Answer) (s : State) → Same c s → Same c (take_answer a s)
unfolding take_answer
answer-same c a s e = done-same c a (record s { moment = moment_of a }) e

stands-same : (c : Scenario) (next : Next) → Reached c next → Stands (Same c) next
unfolding Stands deliver
stands-same c next Reached.Started = starts-keeps (Same c) (same-kept c) lands 0 [] (first_state c) (lands-keeps (Same c) (same-kept c)) refl
stands-same c next (Reached.Moved g s r) = move-keeps (Same c) (same-kept c) g (silent s) (stands-same c (Next.Going g s) r)
stands-same c next (Reached.GaveOut s r) = stands-same c (Next.Resting s) r
stands-same c next (Reached.Turned n s r) = stands-same c (Next.Resting s) r
stands-same c next (Reached.Delivered n i s there numbered e r) = delivers-keeps (Same c) (same-kept c) i.since i.delivery (without_item i s) (stands-same c (Next.Resting s) r)
stands-same c next (Reached.Blocked s e r) = block-same c s (stands-same c (Next.Resting s) r)
stands-same c next (Reached.Exited s e r) = interrupts-keeps (Same c) (same-kept c) 0 FaultKind.LoopExit (block_line s) (block-same c s (stands-same c (Next.Resting s) r))
stands-same c next (Reached.Answered a s e r) = answer-same c a s (stands-same c (Next.Resting s) r)

pub reached-same : (c : Scenario) (next : Next) → Reached c next → (state_of_next next).scenario ≡ c
unfolding Stands
reached-same c next r = by next (stands-same c next r)
  where
    by : (n : Next) → Stands (Same c) n → (state_of_next n).scenario ≡ c
    by (Next.Going g s) e = e
    by (Next.Resting s) e = e
    by (Next.Over cause s) e = e
