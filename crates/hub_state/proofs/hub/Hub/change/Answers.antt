use Rattle.std.proofs.Common.{refl, sym, subst, slice_get}
use Rattle.machine.specs.State.{State}
use Rattle.hub_objects.specs.Counted.{ChangeFits}
use Rattle.hub_state.specs.HubParts.{state_of}
use Rattle.hub_state.proofs.Keeping.{hub_changed_if}
use Rattle.hub_state.proofs.UpToDate.{ascending}
use Rattle.hub_state.proofs.hub.Hub.change.Goals as goal

pub change-requires : goal.change-requires
change-requires c = subst (λ (s : State). ChangeFits c.args.change (slice_get s.objects c.args.o)) (sym c.self.view_is) c.requires

pub invariant_of-self : goal.invariant_of-self
invariant_of-self c =
    let a = ascending 0 _ _ c.items_stand_in_order.ensures.ascends in
    record {
      kept =
          hub_changed_if c.args.o _ _ c.self.inside.held c.self.inside.touched c.touch_awaited.new.touched (state_of c.self.inside) c.change.new.self a refl c.touch_awaited.ensures c.change.ensures c.self.invariant.kept;
      room = c.self.invariant.room;
    }
