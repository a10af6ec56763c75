-- A greenlet goes on to the place that its body came to.
use Rattle.std.proofs.Common.{◌≡◌, refl, ap, sym, ◌∙◌, ℕ, []}
use Rattle.gv_values.specs.declared.value.Outcome.{Outcome}
use Rattle.machine.specs.declared.state.Frame.{Frame}
use Rattle.machine.specs.declared.state.Phase.{Phase}
use Rattle.machine.specs.State.{State}
use Rattle.machine.specs.Unwinding.{Unwound, unwind}
use Rattle.machine.specs.Landing.{Landing, given, goes_on, resumes}
use Rattle.machine.specs.Ends.{leaving_of, outcome_of_leaving}
use Rattle.machine.specs.Greenlets.{no_frame, with_phase}
use Rattle.body_frames.specs.Places.{Place, place_of}
use Rattle.hub_engine.specs.Stands.{goes_to, hopped}
use Rattle.hub_engine.specs.declared.stand.Hop.{Hop}
use Rattle.hub_engine.proofs.Blind.{resumes_blind}

pub goes_as_placed : (up : Landing) (g : ℕ) (u : Unwound) (s : State) → goes_on up g u s ≡ goes_to up g (place_of u) s
goes_as_placed up g (Unwound.Runs left locals todo) s = refl
goes_as_placed up g (Unwound.Out left how) s = refl

-- where a body begins, or goes on with an answer
pub start_goes : (up : Landing) (g : ℕ) (u : Unwound) (place : Place) (s t : State) (hop : Hop) → place ≡ place_of u → goes_to up g place s ≡ hopped up hop t →
    goes_on up g u s ≡ hopped up hop t
start_goes up g u place s t hop e f = goes_as_placed up g u s ∙ ap (λ (p : Place). goes_to up g p s) (sym e) ∙ f

pub answer_goes : (up : Landing) (g : ℕ) (frame : Frame) (o : Outcome) (place : Place) (p : Phase) (s t : State) (hop : Hop) →
    place ≡ place_of (unwind frame.todo [] (leaving_of o) (given frame o)) → goes_to up g place (with_phase g p s) ≡ hopped up hop t →
    resumes up g frame o s ≡ hopped up hop t
answer_goes up g frame o place p s t hop e f =
    sym (resumes_blind up g frame o p s)
    ∙ start_goes up g (unwind frame.todo [] (leaving_of o) (given frame o)) place (with_phase g p s) t hop e f

pub answer_unheard : (up : Landing) (g : ℕ) (o : Outcome) (p : Phase) (s t : State) (hop : Hop) →
    goes_to up g (Place.AtEnd [] (outcome_of_leaving (leaving_of o))) (with_phase g p s) ≡ hopped up hop t → resumes up g no_frame o s ≡ hopped up hop t
answer_unheard up g o p s t hop f = answer_goes up g no_frame o (Place.AtEnd [] (outcome_of_leaving (leaving_of o))) p s t hop refl f
