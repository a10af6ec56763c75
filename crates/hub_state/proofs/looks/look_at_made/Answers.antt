use Rattle.std.proofs.Common.{◌++◌, List, [], ◌∷◌, ℕ, get_or, sym, subst, take}
use Rattle.std.proofs.lemmas.List.{take_all, take_more}
use Rattle.hub_state.specs.Found.{SeenFound}
use Rattle.hub_state.proofs.Looking.{LooksMade, made_all, made_more, made_none, not_before}
use Rattle.hub_state.proofs.Rooms.{made_room}
use Rattle.hub_state.proofs.looks.look_at_made.Goals as goal

pub loop-slot-init : goal.loop-slot-init
loop-slot-init c = made_none c.args.held.now.entries c.args.found.now

pub note_made-requires : goal.note_made-requires
note_made-requires c =
    let k = c.loop-slot.slot-index in
    let made = c.args.made.now in
    made_room (take k made) (get_or made k 0) c.requires.may.0 c.args.held.now.entries c.args.found.now c.loop-slot.found c.requires.may.1 c.loop-slot.invariant (not_before made k 0 c.loop-slot-test.true c.requires.apart)

pub loop-slot-preserved : goal.loop-slot-preserved
loop-slot-preserved c =
    let k = c.loop-slot.slot-index in
    let made = c.args.made.now in
    let es = c.args.held.now.entries in
    subst (λ (qs : List ℕ). LooksMade qs es c.args.found.now c.note_made.new.found) (sym (take_more made k 0 c.loop-slot-test.true))
    (subst (λ (f : SeenFound). LooksMade (take k made ++ get_or made k 0 ∷ []) es c.args.found.now f) (sym c.note_made.ensures)
    (made_more (take k made) (get_or made k 0) es c.args.found.now c.loop-slot.found (not_before made k 0 c.loop-slot-test.true c.requires.apart) c.loop-slot.invariant))

pub returns : goal.returns
returns c =
    let es = c.args.held.now.entries in
    made_all c.args.made.now es c.args.found.now c.loop-slot.found c.requires.pending
    (subst (λ (qs : List ℕ). LooksMade qs es c.args.found.now c.loop-slot.found) (take_all c.loop-slot.slot-index c.args.made.now c.loop-slot-test.false) c.loop-slot.invariant)
