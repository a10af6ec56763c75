use Rattle.hub_requests.proofs.Rooms.{settles_said}
use Rattle.hub_requests.proofs.kills.end_unrun.Goals as goal

pub end_greenlet-requires : goal.end_greenlet-requires
end_greenlet-requires c = settles_said _ _ _ c.in_ok-say_end.ensures (settles_said _ _ _ c.in_ok-say.ensures c.requires)
