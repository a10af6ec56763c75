use Rattle.hub_engine.proofs.Settlings.{settles_said}
use Rattle.hub_engine.proofs.life.land_once.Goals as goal

pub resume_greenlet-requires : goal.resume_greenlet-requires
resume_greenlet-requires c = settles_said 1 _ c.args.hub.now c.say.new.self c.in_ok-say-in-Live.ensures c.requires.settles
