use Rattle.hub_engine.proofs.Settlings.{settles_said}
use Rattle.hub_engine.proofs.life.begin_greenlet.Goals as goal

pub place_greenlet-requires : goal.place_greenlet-requires
place_greenlet-requires c = settles_said 1 _ c.args.hub.now c.say.new.self c.in_ok-say.ensures c.requires.settles
