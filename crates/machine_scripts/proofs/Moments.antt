-- The moment is the same throughout a turn, and an answer sets it.
use Rattle.std.proofs.Common.{◌≡◌, refl, ap, ◌∙◌, ℕ, zero, suc, ◌+◌, ◌-◌, Bool, true, false, [], length}
use Rattle.std.specs.Prelude.{Option, Some, None, if◌then◌else◌}
use Rattle.gv_values.specs.declared.fault.FaultKind.{FaultKind}
use Rattle.gv_values.specs.declared.job.Answer.{Answer}
use Rattle.gv_values.specs.declared.job.JobOutcome.{JobOutcome}
use Rattle.scenario_tree.specs.declared.tree.Scenario.{Scenario}
use Rattle.trace_text.specs.declared.line.Blocked.{Blocked}
use Rattle.trace_text.specs.declared.line.Line.{Line}
use Rattle.world_rules.specs.Legal.{moment_of}
use Rattle.machine.specs.declared.items.Item.{Item}
use Rattle.machine.specs.declared.state.JobState.{JobState}
use Rattle.machine.specs.State.{State, say}
use Rattle.machine.specs.Questions.{any_numbered, arrives, block_line, job_done, take_answer}
use Rattle.machine.specs.Deliveries.{deliver, without_item}
use Rattle.machine.specs.Holds.{job_at}
use Rattle.machine.specs.Landing.{Next, lands, starts}
use Rattle.machine.specs.Moves.{move}
use Rattle.machine.specs.Run.{Passed, after_delivery, deliveries, delivers_one, first_state, least_below, loop_exit, runs, runs_on, silent, turn}
use Rattle.machine_turns.proofs.Steps.{Core, Keeps, Stands, delivers-keeps, interrupts-keeps, lands-keeps, move-keeps, starts-keeps}

-- the state is one of this moment
abbrev pub At : ℕ → State → Type 0
At moment s = s.moment ≡ moment

at-kept : (moment : ℕ) → Keeps (At moment)
at-kept moment =
    record {
      says = λ line s step e. e;
      adds = λ d s e. e;
      drops = λ test s e. e;
      settles = λ s e. e;
      posts = λ g o job takes s e. e;
      alike = λ s t e h. ap (λ (x : Core). x.moment) e ∙ h;
    }

runs-at : (moment n : ℕ) (next : Next) → Stands (At moment) next → Stands (At moment) (runs n next).next
unfolding Stands
runs-at moment zero (Next.Going g s) e = e
runs-at moment zero (Next.Resting s) e = e
runs-at moment zero (Next.Over cause s) e = e
runs-at moment (suc n) (Next.Going g s) e = runs-at moment n (move g (silent s)) (move-keeps (At moment) (at-kept moment) g (silent s) e)
runs-at moment (suc n) (Next.Resting s) e = e
runs-at moment (suc n) (Next.Over cause s) e = e

deliver-at : (moment : ℕ) (i : Item) (s : State) → At moment s → Stands (At moment) (deliver i s)
unfolding deliver
deliver-at moment i s e = delivers-keeps (At moment) (at-kept moment) i.since i.delivery (without_item i s) e

deliveries-at : (moment n budget mark : ℕ) (s : State) → At moment s → Stands (At moment) (deliveries n budget mark s).next
unfolding Stands
deliveries-at moment zero budget mark s e = e
deliveries-at moment (suc n) budget mark s e = by (least_below mark s.items) (deliveries-at moment n budget mark)
  where
    after : (p : Passed) (next : Next) → p.next ≡ next → Stands (At moment) next → ((t : State) → At moment t → Stands (At moment) (deliveries n budget mark t).next)
        → Stands (At moment) (after_delivery (deliveries n budget mark) p next).next
    after p (Next.Resting t) is h go = go t h
    after p (Next.Going g t) is h go = rw is h
    after p (Next.Over cause t) is h go = rw is h

    by : (o : Option Item) → ((t : State) → At moment t → Stands (At moment) (deliveries n budget mark t).next)
        → Stands (At moment) (delivers_one (deliveries n budget mark) budget o s).next
    by None go = e
    by (Some i) go =
        let p = runs_on budget s (deliver i s) in
        after p p.next refl (runs-at moment (budget - s.moves) (deliver i s) (deliver-at moment i s e)) go

-- a turn ends at the moment at which it began
pub turn-at : (budget : ℕ) (s : State) → Stands (At s.moment) (turn budget s).next
turn-at budget s = deliveries-at s.moment (length s.items) budget s.next_ready (record s { turns = s.turns + 1 }) refl

pub block-at : (s : State) → At s.moment (block_line s)
block-at s = by (any_numbered s.items) _
  where
    by : (b : Bool) (x : Blocked) → At s.moment (if b then s else say (Line.Block x) s)
    by true x = refl
    by false x = refl

-- so does LoopExit
pub exit-at : (budget : ℕ) (s : State) → Stands (At s.moment) (loop_exit budget (block_line s)).next
exit-at budget s =
    let t = block_line s in
    runs-at s.moment (budget - t.moves) _ (interrupts-keeps (At s.moment) (at-kept s.moment) 0 FaultKind.LoopExit t (block-at s))

-- and main, up to its first wait
pub start-at : (moves : ℕ) (c : Scenario) → Stands (At 0) (runs moves (starts lands 0 [] (first_state c))).next
start-at moves c = runs-at 0 moves _ (starts-keeps (At 0) (at-kept 0) lands 0 [] (first_state c) (lands-keeps (At 0) (at-kept 0)) refl)

arrives-at : (moment j : ℕ) (o : JobOutcome) (job : Option JobState) (s : State) → At moment s → At moment (arrives j o job s)
arrives-at moment j o None s e = e
arrives-at moment j o (Some job) s e = e

done-at : (moment : ℕ) (a : Answer) (s : State) → At moment s → At moment (job_done a s)
done-at moment (Answer.Done j o at) s e = arrives-at moment j o (job_at j s.jobs) s e
done-at moment (Answer.Elapsed at) s e = e
done-at moment (Answer.Nothing at) s e = e

-- an answer sets the moment
pub answer-at : (a : Answer) (s : State) → At (moment_of a) (take_answer a s)
unfolding take_answer
answer-at a s = done-at (moment_of a) a (record s { moment = moment_of a }) refl
