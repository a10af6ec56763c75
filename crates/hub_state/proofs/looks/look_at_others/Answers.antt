use Rattle.std.proofs.Common.{List, refl}
use Rattle.std.specs.Prelude.{⊤}
use Rattle.machine.specs.declared.items.Item.{Item}
use Rattle.held_items.specs.Waits.{waits_in_none}
use Rattle.held_items.proofs.IndexWalks.{along_at, along_smaller}
use Rattle.hub_state.specs.Over.{whole}
use Rattle.hub_state.proofs.Alongs.{line_all, line_none, line_on}
use Rattle.hub_state.proofs.Rooms.{line_room}
use Rattle.hub_state.proofs.Walks.{is_there}
use Rattle.hub_state.proofs.looks.look_at_others.Goals as goal

pub loop-at-init : goal.loop-at-init
loop-at-init c = line_none (waits_in_none c.args.o) (λ (passed : List Item). ⊤) (whole c.args.base.now c.args.held.now) c.args.held.now.entries c.args.found.now _ c.first_of_others-at.ensures tt

pub get-item-requires : goal.get-item-requires
get-item-requires c = is_there _ _ (along_at (waits_in_none c.args.o) c.args.held.now.entries _ c.in-Some.slot c.loop-at.invariant.along c.requires.apart c.in-Some.is).there

pub note-requires : goal.note-requires
note-requires c =
    line_room (waits_in_none c.args.o) (λ (passed : List Item). ⊤) (whole c.args.base.now c.args.held.now) c.args.held.now.entries c.args.found.now c.loop-at.found c.loop-at.at c.in-Some.slot c.get-item.result.now c.requires
    c.loop-at.invariant c.in-Some.is c.get-item.ensures

pub loop-at-smaller : goal.loop-at-smaller
loop-at-smaller c =
    let es = c.args.held.now.entries in
    let along = c.loop-at.invariant.along in
    let test = waits_in_none c.args.o in
    along_smaller test es c.loop-at.at c.next_waiting-at.result c.in-Some.slot along (along_at test es _ c.in-Some.slot along c.requires.apart c.in-Some.is) c.requires.apart (c.next_waiting-at.ensures.in_none c.args.o)

pub loop-at-preserved : goal.loop-at-preserved
loop-at-preserved c =
    let i = c.get-item.result.now in
    line_on (waits_in_none c.args.o) (λ (passed : List Item). ⊤) (λ (passed : List Item). ⊤) (whole c.args.base.now c.args.held.now) c.args.held.now.entries c.args.found.now c.loop-at.found c.note.new.self c.loop-at.at c.next_waiting-at.result c.in-Some.slot i
    c.holds.result c.requires.apart c.loop-at.invariant c.in-Some.is c.get-item.ensures
    (λ st same passes. c.holds.ensures c.args.held.now (c.before_item.ensures (whole c.args.base.now c.args.held.now) refl))
    (λ passed few passes so. tt) c.note.ensures (c.next_waiting-at.ensures.in_none c.args.o)

pub returns : goal.returns
returns c = line_all (waits_in_none c.args.o) (λ (passed : List Item). ⊤) (whole c.args.base.now c.args.held.now) c.args.held.now.entries c.args.found.now c.loop-at.found _ c.requires.apart c.loop-at.invariant c.in_default.is
