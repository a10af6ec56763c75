use Rattle.std.proofs.Common.{List, length, subst}
use Rattle.machine.specs.declared.state.Object.{Object}
use Rattle.machine_settling.specs.Steps.{has_offer_by}
use Rattle.hub_state.specs.HubParts.{state_of}
use Rattle.hub_state.specs.Touched.{HasTouched}
use Rattle.hub_state.proofs.Keeping.{hub_withdrawn}
use Rattle.hub_state.proofs.UpToDate.{ascending}
use Rattle.hub_state.proofs.hub.Hub.withdraw_offer.Goals as goal

pub invariant_of-self : goal.invariant_of-self
invariant_of-self c =
    let t = c.self.inside.touched in
    let u = c.touch_offers.new.touched in
    let since = c.in-Some.since in
    let touched = subst (λ (xs : List Object). HasTouched (has_offer_by since) xs (length xs) t u) c.as_slice.ensures.same c.touch_offers.ensures in
    record {
      kept =
          hub_withdrawn since c.self.inside.held t u (state_of c.self.inside) c.withdraw.new.self (ascending 0 _ _ c.items_stand_in_order.ensures.ascends) touched c.withdraw.ensures c.self.invariant.kept;
      room = c.self.invariant.room;
    }
