use Rattle.std.proofs.Common.{refl}
use Rattle.hub_state.specs.HubParts.{state_of}
use Rattle.hub_state.proofs.Keeping.{hub_changed_if}
use Rattle.hub_state.proofs.UpToDate.{ascending}
use Rattle.hub_state.proofs.hub.Hub.take_offer.Goals as goal

pub invariant_of-self : goal.invariant_of-self
invariant_of-self c =
    let a = ascending 0 _ _ c.items_stand_in_order.ensures.ascends in
    record {
      kept =
          hub_changed_if c.args.o _ _ c.self.inside.held c.self.inside.touched c.touch_awaited.new.touched (state_of c.self.inside) c.take_offer.new.self a refl c.touch_awaited.ensures c.take_offer.ensures.taken c.self.invariant.kept;
      room = c.self.invariant.room;
    }
