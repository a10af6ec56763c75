use Rattle.std.proofs.Common.{List}
use Rattle.std.specs.Prelude.{⊤}
use Rattle.machine.specs.declared.items.Item.{Item}
use Rattle.held_items.specs.Waits.{is_for, waits_for}
use Rattle.held_items.proofs.IndexWalks.{along_at, along_smaller}
use Rattle.hub_state.specs.Over.{whole}
use Rattle.hub_state.proofs.Classes.{ends_before}
use Rattle.hub_state.proofs.Looking.{looking_all, looking_none, looking_on}
use Rattle.hub_state.proofs.Rooms.{looking_room}
use Rattle.hub_state.proofs.Walks.{is_there}
use Rattle.hub_state.proofs.looks.look_at_target.Goals as goal

pub loop-at-init : goal.loop-at-init
loop-at-init c = looking_none (is_for c.args.target) (λ (passed : List Item). ⊤) (whole c.args.base.now c.args.held.now) c.args.held.now.entries c.args.found.now _ c.first_for-at.ensures tt

pub get-item-requires : goal.get-item-requires
get-item-requires c = is_there _ _ (along_at (waits_for c.args.target) c.args.held.now.entries _ c.in-Some.slot c.loop-at.invariant.along c.requires.apart c.in-Some.is).there

pub note-requires : goal.note-requires
note-requires c =
    looking_room (is_for c.args.target) (λ (passed : List Item). ⊤) (whole c.args.base.now c.args.held.now) c.args.held.now.entries c.args.found.now c.loop-at.found c.loop-at.at c.in-Some.slot c.get-item.result.now c.requires
    c.loop-at.invariant c.in-Some.is c.get-item.ensures

pub loop-at-smaller : goal.loop-at-smaller
loop-at-smaller c =
    let es = c.args.held.now.entries in
    let along = c.loop-at.invariant.along in
    along_smaller (waits_for c.args.target) es c.loop-at.at c.next_for-at.result c.in-Some.slot along (along_at (waits_for c.args.target) es _ c.in-Some.slot along c.requires.apart c.in-Some.is) c.requires.apart (c.next_for-at.ensures c.args.target)

pub loop-at-preserved : goal.loop-at-preserved
loop-at-preserved c =
    looking_on (is_for c.args.target) (λ (passed : List Item). ⊤) (λ (passed : List Item). ⊤) (whole c.args.base.now c.args.held.now) c.args.held.now.entries c.args.found.now c.loop-at.found c.note.new.self _ c.next_for-at.result c.in-Some.slot c.get-item.result.now c.holds.result
    c.requires.apart c.loop-at.invariant c.in-Some.is c.get-item.ensures
    (λ st same passes. c.holds.ensures c.args.held.now (ends_before c.args.target (whole c.args.base.now c.args.held.now) c.get-item.result.now.since c.get-item.result.now.delivery passes))
    (λ passed few passes so. tt) c.note.ensures (c.next_for-at.ensures c.args.target)

pub returns : goal.returns
returns c = looking_all (is_for c.args.target) (λ (passed : List Item). ⊤) (whole c.args.base.now c.args.held.now) c.args.held.now.entries c.args.found.now c.loop-at.found _ c.requires.apart c.loop-at.invariant c.in_default.is
