use Rattle.std.proofs.Common.{◌∙◌, ap}
use Rattle.held_items.specs.Entries.{SeenItems, item_in, without_slot}
use Rattle.hub_state.proofs.Keeping.{item_last, without_last}
use Rattle.hub_state.proofs.Walks.{is_there}
use Rattle.hub_state.proofs.items.add_with_place.Goals as goal

pub take-requires : goal.take-requires
take-requires c =
    is_there _ _ (ap (λ (s : SeenItems). item_in c.in_ok-slot.slot s.entries) c.in_ok-slot.ensures.added ∙ item_last c.in_ok-slot.slot _ c.args.held.now.entries c.in_ok-slot.ensures.absent)

pub returns-then-is_err-clause-err : goal.returns-then-is_err-clause-err
returns-then-is_err-clause-err c =
    ap (λ (s : SeenItems). s.entries) c.take.ensures.taken
    ∙ ap (λ (s : SeenItems). without_slot c.in_ok-slot.slot s.entries) c.in_ok-slot.ensures.added
    ∙ without_last c.in_ok-slot.slot _ c.args.held.now.entries c.in_ok-slot.ensures.absent
