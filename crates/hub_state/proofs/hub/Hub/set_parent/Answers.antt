use Rattle.hub_state.specs.HubParts.{state_of}
use Rattle.hub_state.proofs.Keeping.{hub_parented}
use Rattle.hub_state.proofs.UpToDate.{ascending}
use Rattle.hub_state.proofs.hub.Hub.set_parent.Goals as goal

pub invariant_of-self : goal.invariant_of-self
invariant_of-self c =
    record {
      kept =
          hub_parented c.args.child c.args.parent c.self.inside.held c.self.inside.touched (state_of c.self.inside) c.set_parent.new.self (ascending 0 _ _ c.items_stand_in_order.ensures.ascends) c.set_parent.ensures c.self.invariant.kept;
      room = c.self.invariant.room;
    }
