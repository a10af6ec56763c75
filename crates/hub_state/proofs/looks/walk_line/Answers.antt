use Rattle.std.proofs.Common.{◌≡◌, refl, sym, ap, ◌∙◌, ◌+◌, List, length, not, arith}
use Rattle.std.proofs.lemmas.List.{length_push}
use Rattle.machine.specs.declared.items.Item.{Item}
use Rattle.machine.specs.Holds.{earlier}
use Rattle.hub_items.specs.WaitKinds.{test_of}
use Rattle.held_items.specs.Entries.{flat}
use Rattle.held_items.specs.Waits.{waits_in_line}
use Rattle.held_items.proofs.IndexWalks.{along_at, along_smaller}
use Rattle.held_items.proofs.LineWalks.{line_standing, standing_few}
use Rattle.held_items.proofs.Ordering.{same_item}
use Rattle.hub_state.specs.Over.{whole}
use Rattle.hub_state.proofs.Alongs.{line_before, line_all, line_on, line_stopped}
use Rattle.hub_state.proofs.LineBegins.{line_from}
use Rattle.hub_state.proofs.Rooms.{line_room}
use Rattle.hub_state.proofs.Walks.{is_there}
use Rattle.hub_state.proofs.looks.walk_line.Goals as goal

pub loop-at-init : goal.loop-at-init
loop-at-init c = line_from (waits_in_line c.args.kind c.args.o) (whole c.args.base.now c.args.held.now) c.args.held.now.entries c.args.found.now c.begin_walk-first.result.0 c.begin_walk-first.result.1 c.begin_walk-first.ensures

pub get-item-requires : goal.get-item-requires
get-item-requires c = is_there _ _ (along_at (waits_in_line c.args.kind c.args.o) c.args.held.now.entries _ c.in-Some.slot c.loop-at.invariant.along c.requires.may.apart c.in-Some.is).there

pub returns-then-is_none : goal.returns-then-is_none
returns-then-is_none c =
    let es = c.args.held.now.entries in
    let i = c.get-item.result.now in
    let q = c.in-Some.slot in
    let kind = c.args.kind in
    let o = c.args.o in
    let line = c.loop-at.invariant in
    let st = along_at (waits_in_line kind o) es c.loop-at.at q line.along c.requires.may.apart c.in-Some.is in
    let same = same_item q es st.item i st.there c.get-item.ensures in
    let standing = line_standing (test_of kind o) c.args.held.now.next_since es c.loop-at.at q line.along st c.items_stand_in_order.ensures.ascends in
    let before = line.so ∙ sym standing ∙ ap (λ (x : Item). earlier (test_of kind o) x.since (flat es)) same in
    let fails = sym (c.holds-holds.ensures c.args.held.now (line_before kind o c.loop-at.before (whole c.args.base.now c.args.held.now) i (ap (λ (x : Item). waits_in_line kind o x.delivery) (sym same) ∙ st.among.passes) before)) ∙ c.if-not-holds.true in
    line_stopped kind o c.args.held.now.next_since (λ (passed : List Item). c.loop-at.before ≡ length passed) (whole c.args.base.now c.args.held.now) es c.args.found.now c.loop-at.found c.loop-at.at q i c.requires.may.apart c.items_stand_in_order.ensures.ascends
    refl c.requires.front line c.in-Some.is c.get-item.ensures fails (c.is_none.ensures ∙ ap not c.if-is_none.true)

pub note-requires : goal.note-requires
note-requires c =
    line_room (waits_in_line c.args.kind c.args.o) (λ (passed : List Item). c.loop-at.before ≡ length passed) (whole c.args.base.now c.args.held.now) c.args.held.now.entries c.args.found.now c.loop-at.found c.loop-at.at c.in-Some.slot
    c.get-item.result.now c.requires.may c.loop-at.invariant c.in-Some.is c.get-item.ensures

pub overflow_add-before : goal.overflow_add-before
overflow_add-before c =
    let es = c.args.held.now.entries in
    let line = c.loop-at.invariant in
    let st = along_at (waits_in_line c.args.kind c.args.o) es c.loop-at.at c.in-Some.slot line.along c.requires.may.apart c.in-Some.is in
    let few = standing_few (waits_in_line c.args.kind c.args.o) es c.loop-at.at c.in-Some.slot line.along st in
    let count = line.so in
    let fits = c.items_stand_in_order.ensures.few in
    omega (arith, few, count, fits)

pub loop-at-smaller : goal.loop-at-smaller
loop-at-smaller c =
    let es = c.args.held.now.entries in
    let test = waits_in_line c.args.kind c.args.o in
    let along = c.loop-at.invariant.along in
    along_smaller test es c.loop-at.at c.next_waiting-at.result c.in-Some.slot along (along_at test es _ c.in-Some.slot along c.requires.may.apart c.in-Some.is) c.requires.may.apart
    (c.next_waiting-at.ensures.in_line c.args.kind c.args.o)

pub loop-at-preserved : goal.loop-at-preserved
loop-at-preserved c =
    let es = c.args.held.now.entries in
    let i = c.get-item.result.now in
    let q = c.in-Some.slot in
    let kind = c.args.kind in
    let o = c.args.o in
    let line = c.loop-at.invariant in
    line_on (waits_in_line kind o) (λ (passed : List Item). c.loop-at.before ≡ length passed) (λ (passed : List Item). c.loop-at.before + 1 ≡ length passed) (whole c.args.base.now c.args.held.now) es c.args.found.now c.loop-at.found c.note.new.self
    c.loop-at.at c.next_waiting-at.result q i c.holds-holds.result c.requires.may.apart line c.in-Some.is c.get-item.ensures
    (λ st same passes. c.holds-holds.ensures c.args.held.now (line_before kind o c.loop-at.before (whole c.args.base.now c.args.held.now) i passes
    (line.so ∙ sym (line_standing (test_of kind o) c.args.held.now.next_since es c.loop-at.at q line.along st c.items_stand_in_order.ensures.ascends)
    ∙ ap (λ (x : Item). earlier (test_of kind o) x.since (flat es)) same)))
    (λ passed few passes so. (let long = length_push passed i in omega (arith, long, so))) c.note.ensures (c.next_waiting-at.ensures.in_line kind o)

pub returns : goal.returns
returns c =
    line_all (waits_in_line c.args.kind c.args.o) (λ (passed : List Item). c.loop-at.before ≡ length passed) (whole c.args.base.now c.args.held.now) c.args.held.now.entries c.args.found.now c.loop-at.found _ c.requires.may.apart c.loop-at.invariant c.in_default.is
