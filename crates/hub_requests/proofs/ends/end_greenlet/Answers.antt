use Rattle.hub_requests.proofs.Rooms.{settles_at_end}
use Rattle.hub_requests.proofs.ends.end_greenlet.Goals as goal

pub settle-requires : goal.settle-requires
settle-requires c =
    settles_at_end _ _ c.args.g c.args.hub.now c.drop_at_end-outcome.new.hub c.set_stage.new.self c.leave_crews.new.self c.drop_at_end-outcome.ensures.dropped c.set_stage.ensures c.leave_crews.ensures c.requires
