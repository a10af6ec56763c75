use Rattle.std.proofs.Common.{refl, sym, ◌∙◌, arith}
use Rattle.held_items.specs.Waits.{waits_in_line}
use Rattle.hub_state.specs.Over.{whole}
use Rattle.hub_state.proofs.LineBegins.{back_at, back_from, back_on, passes_back, passes_none}
use Rattle.hub_state.proofs.looks.walk_back.Goals as goal

pub loop-at-init : goal.loop-at-init
loop-at-init c =
    back_from c.args.kind c.args.o c.args.held.now.next_since c.numbered_in-passed.result (whole c.args.base.now c.args.held.now) c.args.held.now.entries c.args.last c.items_stand_in_order.ensures.differ c.items_stand_in_order.ensures.ascends refl
    c.requires.front c.numbered_in-passed.ensures c.requires.last

pub overflow_sub-passed : goal.overflow_sub-passed
overflow_sub-passed c =
    let n = (back_at c.args.kind c.args.o c.args.held.now.entries c.loop-at.at c.loop-at.passed c.in-Some.slot c.loop-at.invariant c.in-Some.is).count in
    omega (arith, n)

pub returns-then-holds_in_line : goal.returns-then-holds_in_line
returns-then-holds_in_line c =
    passes_back c.args.kind c.args.o c.args.held.now.next_since c.loop-at.passed (whole c.args.base.now c.args.held.now) c.args.held.now.entries c.loop-at.at c.next_waiting.result c.in-Some.slot c.loop-at.invariant c.items_stand_in_order.ensures.differ
    c.items_stand_in_order.ensures.ascends refl c.requires.front (back_at c.args.kind c.args.o c.args.held.now.entries c.loop-at.at c.loop-at.passed c.in-Some.slot c.loop-at.invariant c.in-Some.is)
    (sym c.holds_in_line.ensures ∙ c.if-holds_in_line.true) (c.next_waiting.ensures.in_line c.args.kind c.args.o)

pub loop-at-preserved : goal.loop-at-preserved
loop-at-preserved c =
    back_on c.args.kind c.args.o c.args.held.now.entries c.loop-at.at c.previous_waiting-at.result c.loop-at.passed c.in-Some.slot c.loop-at.invariant
    (back_at c.args.kind c.args.o c.args.held.now.entries c.loop-at.at c.loop-at.passed c.in-Some.slot c.loop-at.invariant c.in-Some.is) (c.previous_waiting-at.ensures c.args.kind c.args.o)

pub loop-at-smaller : goal.loop-at-smaller
loop-at-smaller c =
    let n = (back_at c.args.kind c.args.o c.args.held.now.entries c.loop-at.at c.loop-at.passed c.in-Some.slot c.loop-at.invariant c.in-Some.is).count in
    omega (arith, n)

pub returns : goal.returns
returns c = passes_none (waits_in_line c.args.kind c.args.o) (whole c.args.base.now c.args.held.now) c.args.held.now.entries c.first_in_line.result c.first_in_line.ensures
