use Rattle.std.proofs.Common.{ap, ◌∙◌, subst, sym}
use Rattle.body_blocks.specs.Trees.{Coded}
use Rattle.body_frames.specs.Places.{place_of}
use Rattle.body_frames.specs.Standings.{goes_from}
use Rattle.body_frames.specs.Steady.{HasMove}
use Rattle.body_frames.proofs.Coming.{answered_as}
use Rattle.body_frames.proofs.places.answer_body.Goals as goal

pub reach-requires-clause-moves : goal.reach-requires-clause-moves
reach-requires-clause-moves c = subst (λ (t : Coded). HasMove (goes_from t c.in_ok-at.at c.go_on_with.new.stack)) c.deref.ensures c.in_ok-at.ensures.moves

pub returns : goal.returns
returns c =
    c.reach.ensures
    ∙ ap place_of (answered_as c.into_parts-blocks.result.blocks.value c.deref.result.now c.args.body c.into_parts-blocks.result.locals c.into_parts-blocks.result.todo c.into_parts-blocks.result.gives c.args.answer
    c.in_ok-at.at c.go_on_with.new.stack c.deref.ensures (sym c.into_parts-blocks.ensures.same) c.in_ok-at.ensures.goes)
