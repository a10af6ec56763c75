use Rattle.std.proofs.Common.{◌∙◌, ap, List, None}
use Rattle.slot_chains.specs.Chained.{first_of}
use Rattle.held_items.specs.Entries.{Entry, slots_of}
use Rattle.held_items.specs.ShelfParts.{both}
use Rattle.held_items.proofs.ShelfLemmas.{shelf_seen}
use Rattle.held_items.proofs.shelf.Shelf.first.Goals as goal

pub returns : goal.returns
returns c =
    let is = c.self.invariant.is in
    c.first.ensures (both (slots_of c.self.invariant.entries) c.self.invariant.vacant) is.chains ∙ ap (λ (es : List Entry). first_of (slots_of es) None) (shelf_seen _ _ _ _ _ is c.self.view_is)
