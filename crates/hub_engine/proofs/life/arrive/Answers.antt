use Rattle.std.proofs.Common.{◌+◌, arith}
use Rattle.machine.specs.Landing.{lands}
use Rattle.body_frames.specs.Places.{Place}
use Rattle.hub_engine.specs.Settlings.{most_hops}
use Rattle.hub_engine.proofs.Functions.{declared_placed}
use Rattle.hub_engine.proofs.LegByLeg.{arrives_at_end, arrives_at_move}
use Rattle.hub_engine.proofs.Settlings.{settles_fewer, settles_placed}
use Rattle.hub_engine.proofs.life.arrive.Goals as goal

pub place_greenlet-requires : goal.place_greenlet-requires
place_greenlet-requires c = settles_fewer (most_hops + 1) 1 c.args.hub.now (omega arith) c.requires.settles

pub hop_on-requires : goal.hop_on-requires
hop_on-requires c =
    let place = Place.AtEnd c.in-End.timeouts c.in-End.outcome in
    record {
      declared = declared_placed c.args.g place c.args.hub.now c.place_greenlet.new.hub c.in_ok-hop-in-End.hop c.requires.declared c.in_ok-hop-in-End.ensures;
      settles = settles_placed most_hops c.args.g place c.args.hub.now c.place_greenlet.new.hub c.in_ok-hop-in-End.hop c.requires.settles c.in_ok-hop-in-End.ensures;
    }

pub returns-in-Move : goal.returns-in-Move
returns-in-Move c = λ place body h. arrives_at_move c.args.left.now c.args.g c.in-Move.timeouts place c.args.to body c.args.hub.now c.drop_left.new.hub c.requires.stays c.in-Move.is h c.drop_left.ensures

pub returns-in_ok-hop_on-in-End : goal.returns-in_ok-hop_on-in-End
returns-in_ok-hop_on-in-End c = λ place body h.
    arrives_at_end c.args.g c.in-End.timeouts c.in-End.outcome place c.args.to body c.args.hub.now c.place_greenlet.new.hub c.hop_on.new.hub c.in_ok-hop-in-End.hop c.in_ok-hop_on-in-End.field-0
    c.in-End.is h (c.in_ok-hop-in-End.ensures lands) c.in_ok-hop_on-in-End.ensures
