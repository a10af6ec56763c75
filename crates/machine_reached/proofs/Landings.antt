-- Ends, starts and landings keep to what is paid for.
use Rattle.std.proofs.Common.{◌≡◌, refl, ℕ, zero, suc, Bool, true, false, List, [], ◌∷◌, length, arith}
use Rattle.std.specs.Prelude.{◌==◌, Some, if◌then◌else◌}
use Rattle.gv_values.specs.declared.value.Outcome.{Outcome}
use Rattle.gv_values.specs.declared.value.Value.{Value}
use Rattle.gv_values.specs.Ends.{kept}
use Rattle.trace_text.specs.declared.line.Line.{Line}
use Rattle.machine.specs.declared.items.Delivery.{Delivery}
use Rattle.machine.specs.declared.state.Phase.{Phase}
use Rattle.machine.specs.State.{State, say}
use Rattle.machine.specs.Ends.{ended, outcome_of_leaving, stop_of}
use Rattle.machine.specs.Greenlets.{function_of, greenlet}
use Rattle.machine.specs.Items.{drop_items, is_timeout_of}
use Rattle.machine.specs.Landing.{Landing, Next, after_end, answered, goes_on, land, lands, resumes, starts}
use Rattle.machine.specs.Soundness.{phase_of}
use Rattle.machine.specs.Unwinding.{Unwound}
use Rattle.machine_rooms.specs.Steps.{Fixed, HasSteps, Stands, kill}
use Rattle.machine_rooms.proofs.Ledger.{counts-drop, counts-ended, counts-fewer, counts-live}
use Rattle.machine_rooms.proofs.Tallies.{is_open, open-at}

-- a landing keeps to it
abbrev pub Lets : Fixed → Landing → Type 0
Lets b up = (g : ℕ) (o : Outcome) (s : State) → HasSteps b 2 s → Stands b (up g o s)

timeout-no-kill : (g : ℕ) (ns : List ℕ) (d : Delivery) → is_timeout_of g ns d ≡ true → kill d ≡ 0
timeout-no-kill g ns (Delivery.Kill h f) e = absurd (cc e)
timeout-no-kill g ns d e = refl

pub after_end-counts : (b : Fixed) (up : Landing) (g : ℕ) (o : Outcome) (s : State) → Lets b up → is_open (phase_of g s.greenlets) ≡ true → HasSteps b 0 s → Stands b (after_end up g o s)
after_end-counts b up g o s l p h = by (greenlet g s).raw (g == 0)
  where
    left : HasSteps b 2 (ended g (kept o) s)
    left = counts-ended b 0 g (kept o) s p h

    by : (raw main : Bool) → Stands b (if raw then up (greenlet g s).parent (kept o) (ended g (kept o) s)
        else (if main then Next.Over (stop_of (kept o)) (ended g (kept o) s) else Next.Resting (ended g (kept o) s)))
    by true main = l (greenlet g s).parent (kept o) (ended g (kept o) s) left
    by false true = counts-fewer b 2 0 (ended g (kept o) s) (omega arith) left
    by false false = left

pub goes_on-counts : (b : Fixed) (up : Landing) (g : ℕ) (x : Unwound) (s : State) → Lets b up → is_open (phase_of g s.greenlets) ≡ true → HasSteps b 0 s → Stands b (goes_on up g x s)
goes_on-counts b up g (Unwound.Runs left locals todo) s l p h =
    counts-live b 0 g _ (drop_items (is_timeout_of g left) s) p (counts-drop b 0 (is_timeout_of g left) s (timeout-no-kill g left) h)
goes_on-counts b up g (Unwound.Out left how) s l p h =
    after_end-counts b up g (outcome_of_leaving how) (drop_items (is_timeout_of g left) s) l p (counts-drop b 0 (is_timeout_of g left) s (timeout-no-kill g left) h)

pub starts-counts : (b : Fixed) (up : Landing) (g : ℕ) (args : List Value) (s : State) → Lets b up → is_open (phase_of g s.greenlets) ≡ true → HasSteps b 0 s → Stands b (starts up g args s)
starts-counts b up g args s l p h = goes_on-counts b up g _ (say (Line.Start g (function_of (greenlet g s).function s).name) s) l p h

pub land-counts : (b : Fixed) (n : ℕ) → Lets b (land n)
land-counts b zero g o s h = h
land-counts b (suc n) g o s h = by (greenlet g s).phase (open-at s.greenlets g) o (land-counts b n)
  where
    few : HasSteps b 0 s
    few = counts-fewer b 2 0 s (omega arith) h

    by : (p : Phase) → (is_open (Some p) ≡ true → is_open (phase_of g s.greenlets) ≡ true) → (o : Outcome) → Lets b (land n) → Stands b (elim p [
      | Phase.Done out ↦ land n (greenlet g s).parent (kept o) s
      | Phase.Live frame ↦ resumes (land n) g frame o (say (Line.Into g o) s)
      | Phase.New args ↦ elim o [
        | Outcome.Value v ↦ starts (land n) g (v ∷ []) s
        | Outcome.Fault k ↦ after_end (land n) g (Outcome.Fault k) s
      ]
    ])
    by (Phase.Done out) p o l = l (greenlet g s).parent (kept o) s h
    by (Phase.Live frame) p o l = goes_on-counts b (land n) g _ (say (Line.Into g o) s) l (p refl) few
    by (Phase.New args) p (Outcome.Value v) l = starts-counts b (land n) g (v ∷ []) s l (p refl) few
    by (Phase.New args) p (Outcome.Fault k) l = after_end-counts b (land n) g (Outcome.Fault k) s l (p refl) few

pub lands-counts : (b : Fixed) → Lets b lands
lands-counts b g o s h = land-counts b (length s.greenlets) g o s h

pub answered-counts : (b : Fixed) (g : ℕ) (o : Outcome) (s : State) → is_open (phase_of g s.greenlets) ≡ true → HasSteps b 0 s → Stands b (answered g o s)
answered-counts b g o s p h = goes_on-counts b lands g _ s (lands-counts b) p h
