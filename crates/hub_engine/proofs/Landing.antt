-- An input lands at a greenlet, and what comes of an end.
use Rattle.std.proofs.Common.{◌≡◌, refl, ap, sym, subst, ◌∙◌, ℕ, zero, suc, ◌-◌, ◌<◌, [], ◌∷◌, Option, Some, None, slice_get, unwrap_or, arith}
use Rattle.gv_values.specs.declared.value.Outcome.{Outcome}
use Rattle.gv_values.specs.declared.value.Value.{Value}
use Rattle.gv_values.specs.declared.fault.FaultKind.{FaultKind}
use Rattle.trace_text.specs.declared.line.Line.{Line}
use Rattle.machine.specs.declared.state.Greenlet.{Greenlet}
use Rattle.machine.specs.declared.state.Phase.{Phase}
use Rattle.machine.specs.Soundness.{phase_of}
use Rattle.machine.specs.Ends.{ended}
use Rattle.machine.specs.Landing.{Landing, after_end, land, lands_once, resumes, starts}
use Rattle.machine.specs.Greenlets.{frame_of, greenlet, nobody}
use Rattle.gv_values.specs.Ends.{kept}
use Rattle.machine.specs.State.{State, say}
use Rattle.hub_requests.specs.Far.{far_of}
use Rattle.hub_engine.specs.Stands.{end_goes, hopped}
use Rattle.hub_requests.specs.declared.far.Far.{Far}
use Rattle.hub_engine.specs.declared.stand.Hop.{Hop}

-- the landing at a greenlet that has come so far
abbrev by_far : Far → Greenlet → Landing → Landing
by_far Far.Done x up g input s = up x.parent (kept input) s
by_far Far.Live x up g input s = resumes up g (frame_of x.phase) input (say (Line.Into g input) s)
by_far Far.New x up g input s = elim input [ Outcome.Value v ↦ starts up g (v ∷ []) s | Outcome.Fault f ↦ after_end up g (Outcome.Fault f) s ]

-- the landing at this greenlet
abbrev at_one : Greenlet → Landing → Landing
at_one x up g input s =
    elim x.phase [
      | Phase.Done o ↦ up x.parent (kept input) s
      | Phase.Live frame ↦ resumes up g frame input (say (Line.Into g input) s)
      | Phase.New args ↦ elim input [
        | Outcome.Value v ↦ starts up g (v ∷ []) s
        | Outcome.Fault f ↦ after_end up g (Outcome.Fault f) s
      ]
    ]

by-phase : (x : Greenlet) (p : Phase) (up : Landing) (g : ℕ) (input : Outcome) (s : State) → x.phase ≡ p → at_one x up g input s ≡ by_far (far_of (Some p)) x up g input s
by-phase x (Phase.Done o) up g input s e = rw e
by-phase x (Phase.Live frame) up g input s e = rw e
by-phase x (Phase.New args) up g input s e = rw e

by-option : (x : Option Greenlet) (up : Landing) (g : ℕ) (input : Outcome) (s : State) →
    at_one (unwrap_or x nobody) up g input s ≡ by_far (far_of (elim x [ None ↦ None | Some y ↦ Some y.phase ])) (unwrap_or x nobody) up g input s
by-option None up g input s = refl
by-option (Some x) up g input s = by-phase x x.phase up g input s refl

lands-far : (far : Far) (up : Landing) (g : ℕ) (input : Outcome) (s : State) → far ≡ far_of (phase_of g s.greenlets) → lands_once up g input s ≡ by_far far (greenlet g s) up g input s
lands-far far up g input s e =
    by-option (slice_get s.greenlets g) up g input s ∙ ap (λ (f : Far). by_far f (greenlet g s) up g input s) (sym e)

pub lands_done : (far : Far) (up : Landing) (g parent : ℕ) (input o : Outcome) (s : State) → far ≡ far_of (phase_of g s.greenlets) → far ≡ Far.Done → parent ≡ (greenlet g s).parent →
    o ≡ kept input → lands_once up g input s ≡ hopped up (Hop.Up parent o) s
lands_done far up g parent input o s e f p k =
    lands-far far up g input s e ∙ ap (λ (x : Far). by_far x (greenlet g s) up g input s) f ∙ ap (λ (n : ℕ). up n (kept input) s) (sym p) ∙ ap (λ (x : Outcome). up parent x s) (sym k)

pub lands_live : (far : Far) (up : Landing) (g : ℕ) (input : Outcome) (s t u : State) (hop : Hop) → far ≡ far_of (phase_of g s.greenlets) → far ≡ Far.Live → t ≡ say (Line.Into g input) s →
    resumes up g (frame_of (greenlet g t).phase) input t ≡ hopped up hop u → lands_once up g input s ≡ hopped up hop u
lands_live far up g input s t u hop e f k r =
    lands-far far up g input s e ∙ ap (λ (x : Far). by_far x (greenlet g s) up g input s) f
    ∙ subst (λ (x : State). resumes up g (frame_of (greenlet g x).phase) input x ≡ hopped up hop u) k r

pub lands_value : (far : Far) (up : Landing) (g : ℕ) (input : Outcome) (v : Value) (s u : State) (hop : Hop) → far ≡ far_of (phase_of g s.greenlets) → far ≡ Far.New → input ≡ Outcome.Value v →
    starts up g (v ∷ []) s ≡ hopped up hop u → lands_once up g input s ≡ hopped up hop u
lands_value far up g input v s u hop e f i r =
    lands-far far up g input s e ∙ ap (λ (x : Far). by_far x (greenlet g s) up g input s) f ∙ ap (λ (o : Outcome). by_far Far.New (greenlet g s) up g o s) i ∙ r

pub lands_fault : (far : Far) (up : Landing) (g : ℕ) (input : Outcome) (k : FaultKind) (s u : State) (hop : Hop) → far ≡ far_of (phase_of g s.greenlets) → far ≡ Far.New → input ≡ Outcome.Fault k →
    after_end up g (Outcome.Fault k) s ≡ hopped up hop u → lands_once up g input s ≡ hopped up hop u
lands_fault far up g input k s u hop e f i r =
    lands-far far up g input s e ∙ ap (λ (x : Far). by_far x (greenlet g s) up g input s) f ∙ ap (λ (o : Outcome). by_far Far.New (greenlet g s) up g o s) i ∙ r

-- one landing of several
pub land_step : (n g : ℕ) (input : Outcome) (s : State) → 0 < n → land n g input s ≡ lands_once (land (n - 1)) g input s
land_step zero g input s h = absurd (omega (arith, h))
land_step (suc n) g input s h = let one : suc n - 1 ≡ n = omega arith in ap (λ (m : ℕ). lands_once (land m) g input s) (sym one)

-- the line was said, what comes of it was found, and the greenlet ended
pub ended_goes : (up : Landing) (g : ℕ) (o k : Outcome) (s t u : State) (hop : Hop) → k ≡ kept o → t ≡ say (Line.End g k) s →
    ((v : Landing) (after : State) → end_goes v g k t after ≡ hopped v hop after) → ((before : State) → t ≡ say (Line.End g k) before → u ≡ ended g k before) →
    after_end up g o s ≡ hopped up hop u
ended_goes up g o k s t u hop e f comes ends =
    let now : u ≡ ended g k s = ends s f in
    let said : end_goes up g k s u ≡ hopped up hop u = subst (λ (x : State). end_goes up g k x u ≡ hopped up hop u) f (comes up u) in
    ap (λ (x : Outcome). end_goes up g x s (ended g x s)) (sym e) ∙ ap (end_goes up g k s) (sym now) ∙ said
