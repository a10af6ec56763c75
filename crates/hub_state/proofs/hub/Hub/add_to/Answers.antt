use Rattle.std.proofs.Common.{refl, sym, subst, slice_get}
use Rattle.machine.specs.State.{State}
use Rattle.hub_objects.specs.Counted.{AdditionFits}
use Rattle.hub_state.specs.HubParts.{state_of}
use Rattle.hub_state.proofs.Keeping.{either_way, hub_changed_if, hub_failed}
use Rattle.hub_state.proofs.Touching.{grows_is, grows_touched}
use Rattle.hub_state.proofs.UpToDate.{ascending}
use Rattle.hub_state.proofs.hub.Hub.add_to.Goals as goal

pub add-requires : goal.add-requires
add-requires c = subst (λ (s : State). AdditionFits c.args.addition (slice_get s.objects c.args.o)) (sym c.self.view_is) c.requires

pub invariant_of-self : goal.invariant_of-self
invariant_of-self c =
    let s = state_of c.self.inside in
    let held = c.self.inside.held in
    let t = c.self.inside.touched in
    let u = c.touch_awaited.new.touched in
    let a = ascending 0 _ _ c.items_stand_in_order.ensures.ascends in
    record {
      kept =
          either_way c.add.result _ _ _ (λ e. hub_changed_if c.args.o _ _ held t u s c.add.new.self a refl c.touch_awaited.ensures e c.self.invariant.kept)
          (λ e. hub_failed held t u s c.add.new.self (grows_is t u _ c.touch_awaited.ensures (grows_touched _ t)) e c.self.invariant.kept) c.add.ensures.added c.add.ensures.err;
      room = c.self.invariant.room;
    }
