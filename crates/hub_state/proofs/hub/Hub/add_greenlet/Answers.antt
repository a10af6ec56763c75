use Rattle.std.proofs.Common.{◌∙◌, ap, ◌++◌, ◌∷◌, [], List, subst, sym}
use Rattle.machine.specs.declared.state.Greenlet.{Greenlet}
use Rattle.hub_state.specs.HubParts.{state_of}
use Rattle.hub_state.specs.Touched.{IsKept}
use Rattle.hub_state.proofs.Keeping.{hub_made}
use Rattle.hub_state.proofs.UpToDate.{ascending}
use Rattle.hub_state.proofs.hub.Hub.add_greenlet.Goals as goal

pub invariant_of-self : goal.invariant_of-self
invariant_of-self c =
    let s = state_of c.self.inside in
    record {
      kept =
          subst (λ (gs : List Greenlet). IsKept c.self.inside.held c.self.inside.touched (record s { greenlets = gs })) (sym c.in_err-push.ensures.err) c.self.invariant.kept;
      room = c.self.invariant.room;
    }

pub invariant_of-self-2 : goal.invariant_of-self-2
invariant_of-self-2 c =
    let made = c.in_ok-push.ensures.ok ∙ ap (λ (g : Greenlet). c.self.inside.base.greenlets ++ g ∷ []) c.new.ensures in
    record {
      kept =
          hub_made c.args.raw c.args.parent c.args.function c.args.arguments c.self.inside.held c.self.inside.touched (state_of c.self.inside) c.push.new.self (ascending 0 _ _ c.items_stand_in_order.ensures.ascends) made c.self.invariant.kept;
      room = c.self.invariant.room;
    }
