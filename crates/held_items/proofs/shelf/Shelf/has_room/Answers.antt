use Rattle.std.proofs.Common.{◌∙◌, ap, sym, Option, ℕ}
use Rattle.std.specs.Prelude.{is_some}
use Rattle.held_items.specs.Entries.{SeenShelf, slots_of}
use Rattle.held_items.specs.ShelfParts.{both}
use Rattle.held_items.proofs.ShelfLemmas.{vacant_first}
use Rattle.held_items.proofs.shelf.Shelf.has_room.Goals as goal

pub returns : goal.returns
returns c =
    let is = c.self.invariant.is in
    c.is_some.ensures
    ∙ ap (λ (o : Option ℕ). is_some o) (c.first.ensures (both (slots_of c.self.invariant.entries) c.self.invariant.vacant) is.chains ∙ sym (vacant_first _ _ _ _ is))
    ∙ ap (λ (s : SeenShelf). s.has_room) c.self.view_is
