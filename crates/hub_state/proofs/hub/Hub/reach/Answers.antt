use Rattle.std.proofs.Common.{◌∙◌, ap, sym, List}
use Rattle.machine.specs.declared.items.Item.{Item}
use Rattle.held_items.specs.Entries.{Entry}
use Rattle.hub_state.specs.Forgotten.{forgotten, reached}
use Rattle.hub_state.specs.HubParts.{state_of}
use Rattle.hub_state.proofs.Forgetting.{hub_later, hub_reached, none_forgotten, reached_is}
use Rattle.hub_state.proofs.Rooms.{changed_fit}
use Rattle.hub_state.proofs.UpToDate.{ascending}
use Rattle.hub_state.proofs.hub.Hub.reach.Goals as goal

pub invariant_of-self : goal.invariant_of-self
invariant_of-self c =
    record {
      kept =
          hub_later c.args.moment c.self.inside.held c.self.inside.touched (state_of c.self.inside) (ascending 0 _ _ c.items_stand_in_order.ensures.ascends) c.if-moment-self.true c.self.invariant.kept;
      room = c.self.invariant.room;
    }

pub returns-then-moment-self : goal.returns-then-moment-self
returns-then-moment-self c =
    let s = state_of c.self.inside in
    let none = none_forgotten c.args.moment c.self.inside.touched s c.if-moment-self.true c.self.invariant.kept.current in
    ap (λ (items : List Item). record s { moment = c.args.moment; items = items }) (sym none) ∙ ap (reached c.args.moment) c.self.view_is

pub invariant_of-self-2 : goal.invariant_of-self-2
invariant_of-self-2 c =
    let e = c.forget_early.ensures in
    record {
      kept =
          hub_reached c.args.moment c.self.inside.held c.forget_early.new.held c.self.inside.touched (state_of c.self.inside) c.items_stand_in_order.ensures.ascends e.entries e.next e.since c.self.invariant.kept;
      room = changed_fit (λ (x : Entry). (x.0, forgotten c.args.moment x.1)) c.self.inside.held.entries _ _ e.entries c.self.invariant.room;
    }

pub returns : goal.returns
returns c =
    let e = c.forget_early.ensures in
    reached_is c.args.moment c.self.inside.held c.forget_early.new.held (state_of c.self.inside) e.entries e.next e.since ∙ ap (reached c.args.moment) c.self.view_is
