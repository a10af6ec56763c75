-- A greenlet that is given a phase.
use Rattle.std.proofs.Common.{◌≡◌, refl, ap, ℕ, zero, suc, ◌<◌, ◌≤◌, List, [], ◌∷◌, length, Option, Some, None, slice_get, slice_set, slice_index_or, unwrap_or, arith}
use Rattle.machine.specs.declared.state.Greenlet.{Greenlet}
use Rattle.machine.specs.declared.state.Phase.{Phase}
use Rattle.machine.specs.Deliveries.{arguments}
use Rattle.machine.specs.Greenlets.{frame_of, greenlet, no_frame, nobody}
use Rattle.machine.specs.Soundness.{phase_of}
use Rattle.machine.specs.State.{State}

pub phase_set : (gs : List Greenlet) (g : ℕ) (d : Greenlet) (p : Phase) → g < length gs →
    slice_set gs g (record (slice_index_or gs g d) { phase = p }) ≡ slice_set gs g (record (unwrap_or (slice_get gs g) nobody) { phase = p })
phase_set [] g d p h = refl
phase_set (x ∷ gs) zero d p h = refl
phase_set (x ∷ gs) (suc g) d p h = ap (λ ys. x ∷ ys) (phase_set gs g d p (omega (arith, h)))

pub phase_was : (gs : List Greenlet) (g : ℕ) (d : Greenlet) (p : Phase) → g < length gs → (slice_index_or gs g d).phase ≡ unwrap_or (phase_of g gs) p
phase_was [] g d p h = grind arith
phase_was (x ∷ gs) zero d p h = refl
phase_was (x ∷ gs) (suc g) d p h = phase_was gs g d p (omega (arith, h))

pub phase_none : (gs : List Greenlet) (g : ℕ) (p : Phase) → length gs ≤ g → p ≡ unwrap_or (phase_of g gs) p
phase_none [] g p h = refl
phase_none (x ∷ gs) zero p h = grind arith
phase_none (x ∷ gs) (suc g) p h = phase_none gs g p (omega (arith, h))

-- the frame and the arguments of a greenlet, as they were where it was taken to be under way
pub frame_was : (s : State) (g : ℕ) → frame_of (unwrap_or (phase_of g s.greenlets) (Phase.Live no_frame)) ≡ frame_of (greenlet g s).phase
frame_was s g = at (slice_get s.greenlets g)
  where
    at : (x : Option Greenlet) → frame_of (unwrap_or (elim x [ None ↦ None | Some y ↦ Some y.phase ]) (Phase.Live no_frame)) ≡ frame_of (unwrap_or x nobody).phase
    at None = refl
    at (Some y) = refl

pub arguments_were : (s : State) (g : ℕ) → arguments (unwrap_or (phase_of g s.greenlets) (Phase.Live no_frame)) ≡ arguments (greenlet g s).phase
arguments_were s g = at (slice_get s.greenlets g)
  where
    at : (x : Option Greenlet) → arguments (unwrap_or (elim x [ None ↦ None | Some y ↦ Some y.phase ]) (Phase.Live no_frame)) ≡ arguments (unwrap_or x nobody).phase
    at None = refl
    at (Some y) = refl

pub phase_out : (gs : List Greenlet) (g : ℕ) (x : Greenlet) → length gs ≤ g → gs ≡ slice_set gs g x
phase_out [] g y h = refl
phase_out (x ∷ gs) zero y h = grind arith
phase_out (x ∷ gs) (suc g) y h = ap (λ ys. x ∷ ys) (phase_out gs g y (omega (arith, h)))

pub parent_set : (gs : List Greenlet) (g : ℕ) (d : Greenlet) (p : ℕ) → g < length gs →
    slice_set gs g (record (slice_index_or gs g d) { parent = p }) ≡ slice_set gs g (record (unwrap_or (slice_get gs g) nobody) { parent = p })
parent_set [] g d p h = refl
parent_set (x ∷ gs) zero d p h = refl
parent_set (x ∷ gs) (suc g) d p h = ap (λ ys. x ∷ ys) (parent_set gs g d p (omega (arith, h)))
