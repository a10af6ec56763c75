use Rattle.std.proofs.Common.{◌∙◌, sym, true, false, refl}
use Rattle.hub_state.proofs.Walks.{is_there}
use Rattle.hub_state.proofs.Forgetting.{forgetting_all, forgetting_none, forgetting_now, forgetting_on}
use Rattle.hub_state.proofs.moments.forget_early.Goals as goal

pub loop-at-init : goal.loop-at-init
loop-at-init c = forgetting_none c.args.moment c.args.held.now _ c.oldest-at.ensures

pub get-requires : goal.get-requires
get-requires c = is_there _ _ (forgetting_now _ _ _ _ c.in-Some.slot c.loop-at.invariant c.items_stand_in_order.ensures.differ c.in-Some.is).there

pub loop-at-smaller-then-early : goal.loop-at-smaller-then-early
loop-at-smaller-then-early c =
    (forgetting_on c.args.moment c.args.held.now c.loop-at.held c.unnumber.new.self _ _ c.in-Some.slot c.get.result.now true c.items_stand_in_order.ensures.differ c.loop-at.invariant c.in-Some.is c.get.ensures (sym c.if-early.true ∙ c.is_early-early.ensures)
    c.unnumber.ensures c.after-at.ensures).smaller

pub loop-at-preserved-then-early : goal.loop-at-preserved-then-early
loop-at-preserved-then-early c =
    (forgetting_on c.args.moment c.args.held.now c.loop-at.held c.unnumber.new.self _ _ c.in-Some.slot c.get.result.now true c.items_stand_in_order.ensures.differ c.loop-at.invariant c.in-Some.is c.get.ensures (sym c.if-early.true ∙ c.is_early-early.ensures)
    c.unnumber.ensures c.after-at.ensures).forgetting

pub loop-at-smaller : goal.loop-at-smaller
loop-at-smaller c =
    (forgetting_on c.args.moment c.args.held.now c.loop-at.held c.loop-at.held _ _ c.in-Some.slot c.get.result.now false c.items_stand_in_order.ensures.differ c.loop-at.invariant c.in-Some.is c.get.ensures (sym c.if-early.false ∙ c.is_early-early.ensures)
    refl c.after-at.ensures).smaller

pub loop-at-preserved : goal.loop-at-preserved
loop-at-preserved c =
    (forgetting_on c.args.moment c.args.held.now c.loop-at.held c.loop-at.held _ _ c.in-Some.slot c.get.result.now false c.items_stand_in_order.ensures.differ c.loop-at.invariant c.in-Some.is c.get.ensures (sym c.if-early.false ∙ c.is_early-early.ensures)
    refl c.after-at.ensures).forgetting

pub returns-clause-entries : goal.returns-clause-entries
returns-clause-entries c = forgetting_all _ _ _ _ c.loop-at.invariant c.in_default.is
