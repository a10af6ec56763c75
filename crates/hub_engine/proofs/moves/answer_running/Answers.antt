use Rattle.machine.specs.Ends.{leaving_of}
use Rattle.machine.specs.Landing.{given}
use Rattle.machine.specs.Unwinding.{unwind}
use Rattle.std.specs.Prelude.{[]}
use Rattle.body_frames.specs.Places.{place_of}
use Rattle.hub_engine.proofs.Functions.{declared_settled}
use Rattle.hub_engine.proofs.LegByLeg.{answered_so}
use Rattle.hub_engine.proofs.Settlings.{settles_first, settles_then}
use Rattle.hub_engine.proofs.moves.answer_running.Goals as goal

pub settle_hub-requires : goal.settle_hub-requires
settle_hub-requires c = settles_first c.args.hub.now c.requires.settles

pub arrive-requires : goal.arrive-requires
arrive-requires c =
    record {
      stays = c.requires.stays;
      declared = declared_settled c.args.hub.now c.settle_hub.new.hub c.requires.declared c.settle_hub.ensures;
      settles = settles_then c.args.hub.now c.settle_hub.new.hub c.settle_hub.ensures c.requires.settles;
    }

pub returns : goal.returns
returns c =
    let b = c.args.running.now in
    let place = place_of (unwind b.todo [] (leaving_of c.args.answer) (given b c.args.answer)) in
    answered_so c.arrive.new.left c.args.g b c.answer.new.self c.args.answer c.args.hub.now c.settle_hub.new.hub c.arrive.new.hub c.requires.under_way c.settle_hub.ensures
    (c.in_ok-arrive.ensures place c.answer.new.self c.in_ok-to.ensures)
