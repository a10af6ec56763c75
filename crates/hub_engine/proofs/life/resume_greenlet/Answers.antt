use Rattle.std.proofs.Common.{◌≡◌, sym, subst, ℕ, List, []}
use Rattle.gv_values.specs.declared.value.Outcome.{Outcome}
use Rattle.machine.specs.declared.state.Frame.{Frame}
use Rattle.machine.specs.declared.state.Phase.{Phase}
use Rattle.machine.specs.State.{State}
use Rattle.machine.specs.Greenlets.{no_frame, with_phase}
use Rattle.machine.specs.Landing.{resumes}
use Rattle.body_frames.specs.Places.{Place}
use Rattle.body_frames.specs.Standings.{reached_of}
use Rattle.hub_engine.specs.Stands.{goes_to, hopped}
use Rattle.hub_engine.proofs.Bodies.{answer_goes, answer_unheard}
use Rattle.hub_engine.proofs.Settlings.{settles_phased}
use Rattle.hub_engine.proofs.life.resume_greenlet.Goals as goal

pub place_greenlet-requires : goal.place_greenlet-requires
place_greenlet-requires c = settles_phased 1 c.args.g (Phase.Live no_frame) c.args.hub.now c.take_body.new.self c.take_body.ensures.taken c.requires

pub place_greenlet-requires-in-None : goal.place_greenlet-requires-in-None
place_greenlet-requires-in-None c = settles_phased 1 c.args.g (Phase.Live no_frame) c.args.hub.now c.take_body.new.self c.take_body.ensures.taken c.requires

pub returns-in_ok-place_greenlet-in-Some : goal.returns-in_ok-place_greenlet-in-Some
returns-in_ok-place_greenlet-in-Some c = λ up.
    let hop = c.in_ok-place_greenlet-in-Some.field-0 in
    let went = subst (λ (s : State). goes_to up c.args.g (reached_of c.in_ok-reached-in-Some.reached) s ≡ hopped up hop c.place_greenlet.new.hub) c.take_body.ensures.taken (c.in_ok-place_greenlet-in-Some.ensures up) in
    subst (λ (body : Frame). resumes up c.args.g body c.args.answer c.args.hub.now ≡ hopped up hop c.place_greenlet.new.hub) c.in-Some.ensures.body
    (answer_goes up c.args.g c.in-Some.body c.args.answer (reached_of c.in_ok-reached-in-Some.reached) (Phase.Live no_frame) c.args.hub.now c.place_greenlet.new.hub hop c.in_ok-reached-in-Some.ensures went)

pub returns-in_ok-place_greenlet-in-None : goal.returns-in_ok-place_greenlet-in-None
returns-in_ok-place_greenlet-in-None c = λ up.
    let hop = c.in_ok-place_greenlet-in-None.field-0 in
    let went = subst (λ (s : State). goes_to up c.args.g (Place.AtEnd c.new.result c.unheard.result) s ≡ hopped up hop c.place_greenlet-in-None.new.hub) c.take_body.ensures.taken (c.in_ok-place_greenlet-in-None.ensures up) in
    let gone = with_phase c.args.g (Phase.Live no_frame) c.args.hub.now in
    let none = subst (λ (left : List ℕ). goes_to up c.args.g (Place.AtEnd left c.unheard.result) gone ≡ hopped up hop c.place_greenlet-in-None.new.hub) c.new.ensures went in
    let end = subst (λ (o : Outcome). goes_to up c.args.g (Place.AtEnd [] o) gone ≡ hopped up hop c.place_greenlet-in-None.new.hub) c.unheard.ensures none in
    subst (λ (body : Frame). resumes up c.args.g body c.args.answer c.args.hub.now ≡ hopped up hop c.place_greenlet-in-None.new.hub) (sym c.in-None.ensures.none)
    (answer_unheard up c.args.g c.args.answer (Phase.Live no_frame) c.args.hub.now c.place_greenlet-in-None.new.hub hop end)
