use Rattle.hub_state.proofs.Forgetting.{came_fits}
use Rattle.hub_state.proofs.hub.Hub.take.Goals as goal

pub settle-requires : goal.settle-requires
settle-requires c = came_fits c.args.answer _ c.args.self.now c.come.new.self c.say.new.self c.come.ensures c.in_ok-say.ensures c.requires.room
