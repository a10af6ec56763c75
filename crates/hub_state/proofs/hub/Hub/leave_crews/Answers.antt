use Rattle.hub_state.specs.HubParts.{state_of}
use Rattle.hub_state.proofs.Keeping.{hub_left}
use Rattle.hub_state.proofs.UpToDate.{ascending}
use Rattle.hub_state.proofs.hub.Hub.leave_crews.Goals as goal

pub invariant_of-self : goal.invariant_of-self
invariant_of-self c =
    record {
      kept =
          hub_left c.args.g c.self.inside.held c.self.inside.touched c.touch_crews.new.touched (state_of c.self.inside) c.leave.new.self (ascending 0 _ _ c.items_stand_in_order.ensures.ascends) c.touch_crews.ensures c.leave.ensures
          c.self.invariant.kept;
      room = c.self.invariant.room;
    }
