-- A landing needs no more steps than there are greenlets.
use Rattle.std.proofs.Common.{◌≡◌, refl, ap, ◌∙◌, sym, subst, ℕ, zero, suc, ◌≤◌, Bool, true, false, List, [], ◌∷◌, length, arith}
use Rattle.std.specs.Prelude.{◌==◌, slice_get, slice_set, Option, Some, None, is_some, if◌then◌else◌}
use Rattle.gv_values.specs.declared.value.Outcome.{Outcome}
use Rattle.trace_text.specs.declared.line.Line.{Line}
use Rattle.machine.specs.declared.state.Greenlet.{Greenlet}
use Rattle.machine.specs.declared.state.Phase.{Phase}
use Rattle.machine.specs.Unwinding.{Unwound}
use Rattle.machine.specs.State.{State, say}
use Rattle.machine.specs.Holds.{is_done, outcome_of_phase}
use Rattle.machine.specs.Soundness.{phase_of, is_live}
use Rattle.gv_values.specs.Ends.{kept}
use Rattle.machine.specs.Landing.{Next, Landing, after_end, goes_on, starts, resumes, land, lands}
use Rattle.machine.specs.Items.{drop_items, is_timeout_of}
use Rattle.machine.specs.Greenlets.{greenlet, function_of}
use Rattle.machine.specs.Ends.{ended, stop_of, outcome_of_leaving}
use Rattle.machine.specs.Hosts.{host_of}
use Rattle.machine_soundness.specs.Going.{is_plain}
use Rattle.machine_soundness.specs.Onward.{GoesOnward}
use Rattle.machine_soundness.proofs.Greenlets.{at, plain-raw, plain-set, raw-set, parent-set, live-phase, phase-other, live-found}
use Rattle.machine_soundness.proofs.Chains.{Climbs, climb-of, climb-short}

-- the host is live and is not raw
record IsTop (h : ℕ) (gs : List Greenlet) : Type 0 where
  plain : is_plain gs h ≡ true
  live : is_live (phase_of h gs) ≡ true

-- so far up, and with so many steps at hand, what lands goes onward
abbrev Onward : ℕ → Landing → Type 0
Onward n up = (g h k : ℕ) (o : Outcome) (s : State) → Climbs s.greenlets g h k → suc k ≤ n → IsTop h s.greenlets → GoesOnward h (up g o s)

-- a change of a phase changes no way up
climbs-phased : (gs : List Greenlet) (c : ℕ) (p : Phase) (g h k : ℕ) → Climbs gs g h k → Climbs (slice_set gs c (record (at gs c) { phase = p })) g h k
unfolding Climbs
climbs-phased gs c p g h zero w = w
climbs-phased gs c p g h (suc k) w =
    let x : Greenlet = record (at gs c) { phase = p } in
    let fs = slice_set gs c x in
    let parent : (at fs g).parent ≡ (at gs g).parent = parent-set gs c g x refl in (
      raw-set gs c g x refl ∙ w.0,
      subst (λ z. Climbs fs z h k) (sym parent) (climbs-phased gs c p (at gs g).parent h k w.1),
    )

top-phased : (gs : List Greenlet) (c h : ℕ) (p : Phase) → (c ≡ h → ⊥) → IsTop h gs → IsTop h (slice_set gs c (record (at gs c) { phase = p }))
top-phased gs c h p e t = record {
  plain = plain-set gs c h (record (at gs c) { phase = p }) refl ∙ t.plain;
  live = ap is_live (phase-other gs c h (record (at gs c) { phase = p }) e) ∙ t.live;
}

-- what has ended is Done
set-here : (gs : List Greenlet) (g : ℕ) (x y : Greenlet) → slice_get gs g ≡ Some y → slice_get (slice_set gs g x) g ≡ Some x
set-here [] g x y e = absurd (cc e)
set-here (z ∷ gs) zero x y e = refl
set-here (z ∷ gs) (suc g) x y e = set-here gs g x y e

done-ended : (g : ℕ) (o : Outcome) (s : State) → is_live (phase_of g s.greenlets) ≡ true → is_done (ended g o s) g ≡ true
done-ended g o s l =
    let found = set-here s.greenlets g (record (greenlet g s) { phase = Phase.Done o }) (at s.greenlets g) (live-found s.greenlets g l) in
    subst (λ (x : Option Greenlet). is_some (elim x [ None ↦ None | Some y ↦ outcome_of_phase y.phase ]) ≡ true) (sym found) refl

-- the end of a raw greenlet
after_end-raw : (n : ℕ) (up : Landing) (g h k : ℕ) (o : Outcome) (s : State) → Onward n up → (greenlet g s).raw ≡ true → Climbs s.greenlets (greenlet g s).parent h k →
    suc k ≤ n → IsTop h s.greenlets → GoesOnward h (after_end up g o s)
after_end-raw n up g h k o s l e c few t = by (greenlet g s).raw e
  where
    other : g ≡ h → ⊥
    other z = cc (e, plain-raw s.greenlets h t.plain, ap (λ i. (at s.greenlets i).raw) z)

    by : (raw : Bool) → raw ≡ true → GoesOnward h (if raw then up (greenlet g s).parent (kept o) (ended g (kept o) s)
        else (if g == 0 then Next.Over (stop_of (kept o)) (ended g (kept o) s) else Next.Resting (ended g (kept o) s)))
    by true z = l (greenlet g s).parent h k (kept o) (ended g (kept o) s) (climbs-phased s.greenlets g (Phase.Done (kept o)) (greenlet g s).parent h k c) few (top-phased s.greenlets g h (Phase.Done (kept o)) other t)
    by false z = absurd (cc z)

-- the end of the host
after_end-top : (up : Landing) (h : ℕ) (o : Outcome) (s : State) → IsTop h s.greenlets → GoesOnward h (after_end up h o s)
after_end-top up h o s t = by (greenlet h s).raw (plain-raw s.greenlets h t.plain) (h == 0)
  where
    by : (raw : Bool) → raw ≡ false → (main : Bool) → GoesOnward h (if raw then up (greenlet h s).parent (kept o) (ended h (kept o) s)
        else (if main then Next.Over (stop_of (kept o)) (ended h (kept o) s) else Next.Resting (ended h (kept o) s)))
    by true e main = absurd (cc e)
    by false e true = tt
    by false e false = done-ended h (kept o) s t.live

goes_on-raw : (n : ℕ) (up : Landing) (g h k : ℕ) (u : Unwound) (s : State) → Onward n up → (greenlet g s).raw ≡ true → Climbs s.greenlets (greenlet g s).parent h k →
    suc k ≤ n → IsTop h s.greenlets → GoesOnward h (goes_on up g u s)
goes_on-raw n up g h k (Unwound.Runs left locals todo) s l e c few t = tt
goes_on-raw n up g h k (Unwound.Out left how) s l e c few t =
    after_end-raw n up g h k (outcome_of_leaving how) (drop_items (is_timeout_of g left) s) l e c few t

goes_on-top : (up : Landing) (h : ℕ) (u : Unwound) (s : State) → IsTop h s.greenlets → GoesOnward h (goes_on up h u s)
goes_on-top up h (Unwound.Runs left locals todo) s t = tt
goes_on-top up h (Unwound.Out left how) s t = after_end-top up h (outcome_of_leaving how) (drop_items (is_timeout_of h left) s) t

land-raw : (n g h k : ℕ) (o : Outcome) (s : State) → Onward n (land n) → (greenlet g s).raw ≡ true → Climbs s.greenlets (greenlet g s).parent h k → suc k ≤ n → IsTop h s.greenlets →
    GoesOnward h (land (suc n) g o s)
land-raw n g h k o s l e c few t = by (greenlet g s).phase o
  where
    by : (p : Phase) (o : Outcome) → GoesOnward h (elim p [
      | Phase.Done out ↦ land n (greenlet g s).parent (kept o) s
      | Phase.Live frame ↦ resumes (land n) g frame o (say (Line.Into g o) s)
      | Phase.New args ↦ elim o [
        | Outcome.Value v ↦ starts (land n) g (v ∷ []) s
        | Outcome.Fault f ↦ after_end (land n) g (Outcome.Fault f) s
      ]
    ])
    by (Phase.Done out) o = l (greenlet g s).parent h k (kept o) s c few t
    by (Phase.Live frame) o = goes_on-raw n (land n) g h k _ (say (Line.Into g o) s) l e c few t
    by (Phase.New args) (Outcome.Value v) = goes_on-raw n (land n) g h k _ (say (Line.Start g (function_of (greenlet g s).function s).name) s) l e c few t
    by (Phase.New args) (Outcome.Fault f) = after_end-raw n (land n) g h k (Outcome.Fault f) s l e c few t

land-top : (n h : ℕ) (o : Outcome) (s : State) → IsTop h s.greenlets → GoesOnward h (land (suc n) h o s)
land-top n h o s t = by (greenlet h s).phase (ap is_live (sym (live-phase s.greenlets h t.live)) ∙ t.live) o
  where
    by : (p : Phase) → is_live (Some p) ≡ true → (o : Outcome) → GoesOnward h (elim p [
      | Phase.Done out ↦ land n (greenlet h s).parent (kept o) s
      | Phase.Live frame ↦ resumes (land n) h frame o (say (Line.Into h o) s)
      | Phase.New args ↦ elim o [
        | Outcome.Value v ↦ starts (land n) h (v ∷ []) s
        | Outcome.Fault f ↦ after_end (land n) h (Outcome.Fault f) s
      ]
    ])
    by (Phase.Done out) z o = absurd (cc z)
    by (Phase.Live frame) z o = goes_on-top (land n) h _ (say (Line.Into h o) s) t
    by (Phase.New args) z o = absurd (cc z)

land-onward : (n : ℕ) → Onward n (land n)
unfolding Climbs
land-onward zero g h k o s c few t = absurd (omega (arith, few))
land-onward (suc n) g h zero o s c few t = subst (λ z. GoesOnward h (land (suc n) z o s)) (sym c) (land-top n h o s t)
land-onward (suc n) g h (suc k) o s c few t = land-raw n g h k o s (land-onward n) c.0 c.1 (omega (arith, few)) t

pub lands-onward : (g h : ℕ) (o : Outcome) (s : State) → host_of s g ≡ h → is_plain s.greenlets h ≡ true → is_live (phase_of h s.greenlets) ≡ true → GoesOnward h (lands g o s)
lands-onward g h o s e p l =
    let c = climb-of (length s.greenlets) s.greenlets g h e in
    land-onward (length s.greenlets) g h c.0 o s c.1 (climb-short s.greenlets g h c.0 p c.1) (record { plain = p; live = l })
