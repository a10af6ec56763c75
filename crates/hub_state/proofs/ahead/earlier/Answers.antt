use Rattle.std.proofs.Common.{◌+◌, arith, refl}
use Rattle.std.proofs.lemmas.Bool.{lt-ltb}
use Rattle.hub_items.specs.WaitKinds.{test_of}
use Rattle.held_items.specs.Waits.{waits_in_line}
use Rattle.held_items.proofs.IndexWalks.{along_at, along_smaller}
use Rattle.held_items.proofs.LineWalks.{earlier_begun, earlier_ended, earlier_few, earlier_more, earlier_stopped}
use Rattle.held_items.proofs.Ordering.{same_item}
use Rattle.hub_state.proofs.Walks.{is_there}
use Rattle.hub_state.proofs.ahead.earlier.Goals as goal

pub loop-at-init : goal.loop-at-init
loop-at-init c = earlier_begun (test_of c.args.kind c.args.object) c.args.since c.args.held.now.entries _ c.first_in_line-at.ensures

pub get-requires : goal.get-requires
get-requires c = is_there _ _ (along_at (waits_in_line c.args.kind c.args.object) c.args.held.now.entries _ c.in-Some.slot c.loop-at.invariant.along c.items_stand_in_order.ensures.differ c.in-Some.is).there

pub returns-then-get-since : goal.returns-then-get-since
returns-then-get-since c =
    let es = c.args.held.now.entries in
    let i = c.get.result.now in
    let q = c.in-Some.slot in
    let st = along_at (waits_in_line c.args.kind c.args.object) es c.loop-at.at q c.loop-at.invariant.along c.items_stand_in_order.ensures.differ c.in-Some.is in
    earlier_stopped (test_of c.args.kind c.args.object) c.args.since c.args.held.now.next_since es c.loop-at.at c.loop-at.n q i c.loop-at.invariant st (same_item q es st.item i st.there c.get.ensures) c.items_stand_in_order.ensures.ascends c.if-get-since.true

pub overflow_add-n : goal.overflow_add-n
overflow_add-n c =
    let es = c.args.held.now.entries in
    let st = along_at (waits_in_line c.args.kind c.args.object) es c.loop-at.at c.in-Some.slot c.loop-at.invariant.along c.items_stand_in_order.ensures.differ c.in-Some.is in
    let few = earlier_few (test_of c.args.kind c.args.object) c.args.since es c.loop-at.at c.loop-at.n c.in-Some.slot c.loop-at.invariant st in
    let fits = c.items_stand_in_order.ensures.few in
    omega (arith, few, fits)

pub loop-at-smaller : goal.loop-at-smaller
loop-at-smaller c =
    let es = c.args.held.now.entries in
    let test = waits_in_line c.args.kind c.args.object in
    let along = c.loop-at.invariant.along in
    along_smaller test es c.loop-at.at c.next_waiting-at.result c.in-Some.slot along (along_at test es _ c.in-Some.slot along c.items_stand_in_order.ensures.differ c.in-Some.is) c.items_stand_in_order.ensures.differ
    (c.next_waiting-at.ensures.in_line c.args.kind c.args.object)

pub loop-at-preserved : goal.loop-at-preserved
loop-at-preserved c =
    let es = c.args.held.now.entries in
    let i = c.get.result.now in
    let q = c.in-Some.slot in
    let st = along_at (waits_in_line c.args.kind c.args.object) es c.loop-at.at q c.loop-at.invariant.along c.items_stand_in_order.ensures.differ c.in-Some.is in
    let older = c.if-get-since.false in
    earlier_more (test_of c.args.kind c.args.object) c.args.since es c.loop-at.at c.next_waiting-at.result c.loop-at.n (c.loop-at.n + 1) q i c.loop-at.invariant st (same_item q es st.item i st.there c.get.ensures)
    (lt-ltb i.since c.args.since (omega (arith, older))) refl (c.next_waiting-at.ensures.in_line c.args.kind c.args.object)

pub returns : goal.returns
returns c = earlier_ended (test_of c.args.kind c.args.object) c.args.since c.args.held.now.entries c.loop-at.at c.loop-at.n c.loop-at.invariant c.in_default.is
