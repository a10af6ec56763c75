use Rattle.hub_engine.proofs.Landing.{ended_goes}
use Rattle.hub_engine.proofs.Settlings.{settles_once, settles_said}
use Rattle.hub_engine.proofs.life.go_on_after_end.Goals as goal

pub end_greenlet-requires : goal.end_greenlet-requires
end_greenlet-requires c = settles_once c.say_end.new.hub (settles_said 1 _ c.args.hub.now c.say_end.new.hub c.in_ok-say_end.ensures c.requires)

pub returns : goal.returns
returns c = λ up. ended_goes up _ _ _ _ _ _ _ c.kept_outcome-outcome.ensures c.in_ok-say_end.ensures c.in_ok-hop.ensures c.end_greenlet.ensures
