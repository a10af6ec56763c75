use Rattle.std.proofs.Common.{◌∙◌, ap, sym, subst, length, arith, List, Option, ℕ}
use Rattle.std.specs.Prelude.{unwrap_or}
use Rattle.item_places.specs.Items.{Lacks}
use Rattle.held_items.specs.Entries.{Entry, SeenShelf, slots_of}
use Rattle.held_items.specs.ShelfParts.{both, vacant_of}
use Rattle.held_items.proofs.ShelfLemmas.{first_vacant, none_held, shelf_seen, vacant_first, vacant_lacks}
use Rattle.held_items.proofs.shelf.Shelf.vacant.Goals as goal

pub unreachable-requires : goal.unreachable-requires
unreachable-requires c =
    let is = c.self.invariant.is in
    let first = c.first.ensures (both (slots_of c.self.invariant.entries) c.self.invariant.vacant) is.chains in
    none_held (vacant_of c.self.inside.order) (vacant_first _ _ _ _ is ∙ sym first ∙ c.in-None.is) (ap (λ (s : SeenShelf). s.has_room) c.self.view_is ∙ c.requires)

pub returns-clause-slot : goal.returns-clause-slot
returns-clause-slot c =
    let is = c.self.invariant.is in
    let first = c.first.ensures (both (slots_of c.self.invariant.entries) c.self.invariant.vacant) is.chains in
    sym (ap (λ (o : Option ℕ). unwrap_or o 0) (vacant_first _ _ _ _ is ∙ sym first ∙ c.in-Some.is)) ∙ ap (λ (s : SeenShelf). s.vacant) c.self.view_is

pub returns-clause-within : goal.returns-clause-within
returns-clause-within c =
    let is = c.self.invariant.is in
    let first = c.first.ensures (both (slots_of c.self.invariant.entries) c.self.invariant.vacant) is.chains in
    let here = is.within c.in-Some.slot (first_vacant c.self.invariant.vacant c.in-Some.slot (sym first ∙ c.in-Some.is)) in
    let few = is.few in
    omega (arith, here, few)

pub returns-clause-absent : goal.returns-clause-absent
returns-clause-absent c =
    let is = c.self.invariant.is in
    let first = c.first.ensures (both (slots_of c.self.invariant.entries) c.self.invariant.vacant) is.chains in
    subst (λ (es : List Entry). Lacks c.in-Some.slot (slots_of es)) (shelf_seen _ _ _ _ _ is c.self.view_is)
    (vacant_lacks _ _ _ _ c.in-Some.slot is (first_vacant c.self.invariant.vacant c.in-Some.slot (sym first ∙ c.in-Some.is)))

pub returns-clause-few : goal.returns-clause-few
returns-clause-few c =
    let is = c.self.invariant.is in
    let seen = ap length (shelf_seen _ _ _ _ _ is c.self.view_is) in
    let count = is.count in
    let few = is.few in
    omega (arith, seen, count, few)
