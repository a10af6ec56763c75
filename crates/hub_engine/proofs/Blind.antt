-- What a greenlet's steps read of it but for its phase: going on and ending replace the phase that it has.
use Rattle.std.proofs.Common.{◌≡◌, refl, sym, ap, ◌∙◌, ℕ, zero, suc, Bool, ◌==◌, List, [], ◌∷◌, Some, None, slice_get, slice_set, unwrap_or, if◌then◌else◌}
use Rattle.gv_values.specs.declared.value.Value.{Value}
use Rattle.gv_values.specs.declared.value.Outcome.{Outcome}
use Rattle.machine.specs.declared.state.Greenlet.{Greenlet}
use Rattle.machine.specs.declared.state.Phase.{Phase}
use Rattle.machine.specs.declared.state.Frame.{Frame}
use Rattle.std.specs.Prelude.{map}
use Rattle.trace_text.specs.declared.line.Line.{Line}
use Rattle.machine.specs.Settle.{settle}
use Rattle.machine.specs.Soundness.{phase_of}
use Rattle.machine.specs.State.{State, say}
use Rattle.machine.specs.Unwinding.{Unwound, unwind}
use Rattle.machine.specs.Landing.{Next, Landing, after_end, goes_on, resumes, starts, given}
use Rattle.machine.specs.Greenlets.{no_frame, nobody, greenlet, function_of, with_phase}
use Rattle.machine.specs.Ends.{ended, stop_of, leaving_of, outcome_of_leaving}
use Rattle.machine.specs.Items.{drop_items, goes_at_end, is_timeout_of}
use Rattle.machine.specs.Objects.{without_member}
use Rattle.gv_values.specs.Ends.{kept}
use Rattle.body_frames.specs.Places.{Place}
use Rattle.hub_engine.specs.Stands.{goes_to}

-- the greenlet of this number, with this phase
abbrev pub phased : List Greenlet → ℕ → Phase → Greenlet
phased gs g p = record (unwrap_or (slice_get gs g) nobody) { phase = p }

pub phase_twice : (gs : List Greenlet) (g : ℕ) (p q : Phase) →
    slice_set (slice_set gs g (phased gs g p)) g (phased (slice_set gs g (phased gs g p)) g q) ≡ slice_set gs g (phased gs g q)
phase_twice [] g p q = refl
phase_twice (x ∷ gs) zero p q = refl
phase_twice (x ∷ gs) (suc g) p q = ap (λ ys. x ∷ ys) (phase_twice gs g p q)

pub same_raw : (gs : List Greenlet) (g : ℕ) (p : Phase) →
    (unwrap_or (slice_get (slice_set gs g (phased gs g p)) g) nobody).raw ≡ (unwrap_or (slice_get gs g) nobody).raw
same_raw [] g p = refl
same_raw (x ∷ gs) zero p = refl
same_raw (x ∷ gs) (suc g) p = same_raw gs g p

same_parent : (gs : List Greenlet) (g : ℕ) (p : Phase) →
    (unwrap_or (slice_get (slice_set gs g (phased gs g p)) g) nobody).parent ≡ (unwrap_or (slice_get gs g) nobody).parent
same_parent [] g p = refl
same_parent (x ∷ gs) zero p = refl
same_parent (x ∷ gs) (suc g) p = same_parent gs g p

pub same_function : (gs : List Greenlet) (g : ℕ) (p : Phase) →
    (unwrap_or (slice_get (slice_set gs g (phased gs g p)) g) nobody).function ≡ (unwrap_or (slice_get gs g) nobody).function
same_function [] g p = refl
same_function (x ∷ gs) zero p = refl
same_function (x ∷ gs) (suc g) p = same_function gs g p

pub with_phase_twice : (g : ℕ) (p q : Phase) (s : State) → with_phase g q (with_phase g p s) ≡ with_phase g q s
with_phase_twice g p q s = ap (λ gs. record s { greenlets = gs }) (phase_twice s.greenlets g p q)

-- who has the phase already
pub phase_same : (gs : List Greenlet) (g : ℕ) (p : Phase) → phase_of g gs ≡ Some p → slice_set gs g (phased gs g p) ≡ gs
phase_same [] g p h = refl
phase_same (x ∷ gs) zero p h = ap (λ q. record x { phase = q } ∷ gs) (sym (ap (λ o. unwrap_or o p) h))
phase_same (x ∷ gs) (suc g) p h = ap (λ ys. x ∷ ys) (phase_same gs g p h)

pub under_way_still : (g : ℕ) (s : State) → phase_of g s.greenlets ≡ Some (Phase.Live no_frame) → s ≡ with_phase g (Phase.Live no_frame) s
under_way_still g s h = ap (λ (gs : List Greenlet). record s { greenlets = gs }) (sym (phase_same s.greenlets g (Phase.Live no_frame) h))

-- what comes of an end, by what is read of the greenlet
abbrev after : Landing → ℕ → Outcome → Bool → ℕ → State → Next
after up g o raw parent s = if raw then up parent (kept o) s else (if g == 0 then Next.Over (stop_of (kept o)) s else Next.Resting s)

-- the end, where these are the greenlets
abbrev ended_with : ℕ → Outcome → State → List Greenlet → State
ended_with g o s gs =
    let t = drop_items (goes_at_end g o) (record (say (Line.End g o) s) { greenlets = gs }) in
    settle (record t { objects = map (without_member g) t.objects })

ended_blind : (g : ℕ) (o : Outcome) (p : Phase) (s : State) → ended g o (with_phase g p s) ≡ ended g o s
ended_blind g o p s = ap (ended_with g o s) (phase_twice s.greenlets g p (Phase.Done o))

after_end_blind : (up : Landing) (g : ℕ) (o : Outcome) (p : Phase) (s : State) → after_end up g o (with_phase g p s) ≡ after_end up g o s
after_end_blind up g o p s =
    ap (λ (r : Bool). after up g o r (greenlet g (with_phase g p s)).parent (ended g (kept o) (with_phase g p s))) (same_raw s.greenlets g p)
    ∙ ap (λ (q : ℕ). after up g o (greenlet g s).raw q (ended g (kept o) (with_phase g p s))) (same_parent s.greenlets g p)
    ∙ ap (after up g o (greenlet g s).raw (greenlet g s).parent) (ended_blind g (kept o) p s)

pub goes_on_blind : (up : Landing) (g : ℕ) (u : Unwound) (p : Phase) (s : State) → goes_on up g u (with_phase g p s) ≡ goes_on up g u s
goes_on_blind up g (Unwound.Runs left locals todo) p s = rw (phase_twice s.greenlets g p (Phase.Live (record { locals = locals; todo = todo; gives = None })))
goes_on_blind up g (Unwound.Out left how) p s = after_end_blind up g (outcome_of_leaving how) p (drop_items (is_timeout_of g left) s)

pub goes_to_blind : (up : Landing) (g : ℕ) (place : Place) (p : Phase) (s : State) → goes_to up g place (with_phase g p s) ≡ goes_to up g place s
goes_to_blind up g (Place.AtMove left body) p s = rw (phase_twice s.greenlets g p (Phase.Live body))
goes_to_blind up g (Place.AtEnd left o) p s = after_end_blind up g o p (drop_items (is_timeout_of g left) s)

pub resumes_blind : (up : Landing) (g : ℕ) (frame : Frame) (o : Outcome) (p : Phase) (s : State) → resumes up g frame o (with_phase g p s) ≡ resumes up g frame o s
resumes_blind up g frame o p s = goes_on_blind up g (unwind frame.todo [] (leaving_of o) (given frame o)) p s

pub starts_blind : (up : Landing) (g : ℕ) (args : List Value) (p : Phase) (s : State) → starts up g args (with_phase g p s) ≡ starts up g args s
starts_blind up g args p s = rw (same_function s.greenlets g p) (goes_on_blind up g _ p (say (Line.Start g (function_of (greenlet g s).function s).name) s))
