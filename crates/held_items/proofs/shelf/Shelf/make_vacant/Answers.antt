use Rattle.std.proofs.Common.{◌≡◌, ◌∙◌, ◌∷◌, ◌++◌, [], ap, sym, arith, false, rules, Option, ℕ}
use Rattle.std.specs.Prelude.{is_some}
use Rattle.held_items.proofs.ShelfLemmas.{shelf_is, shelf_longer, shelf_roomier, shelf_seen, slots_few, some_vacant, vacant_first}
use Rattle.held_items.proofs.shelf.Shelf.make_vacant.Goals as goal

pub reserve-requires-2 : goal.reserve-requires-2
reserve-requires-2 c =
    let none : c.has_room.result ≡ false = search (rules, c.if-has_room.false) in
    let few = slots_few _ _ _ _ _ c.self.invariant.is c.self.view_is (sym c.has_room.ensures ∙ none) c.requires in
    let last = c.len-slot.ensures in
    omega (arith, few, last)

pub returns-in_err-reserve-2-clause-kept : goal.returns-in_err-reserve-2-clause-kept
returns-in_err-reserve-2-clause-kept c =
    let is = c.self.invariant.is in
    shelf_is _ _ _ _ (shelf_roomier _ _ _ _ _ _ is c.reserve.ensures.items c.reserve-2.ensures.chains c.reserve-2.ensures.more_keys) ∙ shelf_seen _ _ _ _ _ is c.self.view_is

pub invariant_of-self-2 : goal.invariant_of-self-2
invariant_of-self-2 c =
    let is = c.self.invariant.is in
    let none : c.has_room.result ≡ false = search (rules, c.if-has_room.false) in
    let few = slots_few _ _ _ _ _ is c.self.view_is (sym c.has_room.ensures ∙ none) c.requires in
    record {
      entries = c.self.invariant.entries;
      vacant = c.self.invariant.vacant ++ c.len-slot.result ∷ [];
      is = shelf_longer _ _ _ _ _ _ _ _ c.len-slot.result is few (let l = c.len-slot.ensures in omega (arith, l)) c.reserve.ensures.items c.push_vacant.ensures c.reserve-2.ensures.chains
          (let k = c.in_ok-reserve-2.ensures.keys in omega (arith, k)) c.push.ensures.keys c.push.ensures.chains;
      len = c.self.invariant.len;
    }

pub returns-clause-room : goal.returns-clause-room
returns-clause-room c =
    let is = c.self.invariant.is in
    let none : c.has_room.result ≡ false = search (rules, c.if-has_room.false) in
    let few = slots_few _ _ _ _ _ is c.self.view_is (sym c.has_room.ensures ∙ none) c.requires in
    ap (λ (o : Option ℕ). is_some o)
    (vacant_first _ _ _ _
    (shelf_longer _ _ _ _ _ _ _ _ c.len-slot.result is few (let l = c.len-slot.ensures in omega (arith, l)) c.reserve.ensures.items c.push_vacant.ensures c.reserve-2.ensures.chains
    (let k = c.in_ok-reserve-2.ensures.keys in omega (arith, k)) c.push.ensures.keys c.push.ensures.chains))
    ∙ some_vacant c.self.invariant.vacant c.len-slot.result

pub returns-clause-kept : goal.returns-clause-kept
returns-clause-kept c =
    let is = c.self.invariant.is in
    let none : c.has_room.result ≡ false = search (rules, c.if-has_room.false) in
    let few = slots_few _ _ _ _ _ is c.self.view_is (sym c.has_room.ensures ∙ none) c.requires in
    shelf_is _ _ _ _
    (shelf_longer _ _ _ _ _ _ _ _ c.len-slot.result is few (let l = c.len-slot.ensures in omega (arith, l)) c.reserve.ensures.items c.push_vacant.ensures c.reserve-2.ensures.chains
    (let k = c.in_ok-reserve-2.ensures.keys in omega (arith, k)) c.push.ensures.keys c.push.ensures.chains)
    ∙ shelf_seen _ _ _ _ _ is c.self.view_is
