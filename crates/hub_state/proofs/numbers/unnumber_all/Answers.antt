use Rattle.std.proofs.Common.{List, ℕ, get_or, sym, subst, drop, ◌+◌, inl, refl}
use Rattle.std.proofs.lemmas.List.{drop_more}
use Rattle.held_items.specs.Entries.{SeenItems}
use Rattle.hub_state.proofs.Numbering.{Takes, may_lose, takes_more, takes_none}
use Rattle.hub_state.proofs.numbers.unnumber_all.Goals as goal

pub loop-pair-init : goal.loop-pair-init
loop-pair-init c = takes_none c.args.lost.now c.args.held.now c.requires

pub unnumber-requires : goal.unnumber-requires
unnumber-requires c =
    let k = c.loop-pair.pair-index in
    let p = get_or c.args.lost.now k (0, 0) in
    let left = subst (λ (xs : List (ℕ × ℕ)). Takes c.args.lost.now xs c.args.held.now c.loop-pair.held) (drop_more c.args.lost.now k (0, 0) c.loop-pair-test.true) c.loop-pair.invariant in
    may_lose c.loop-pair.held.entries p (left.there p (inl refl))

pub loop-pair-preserved : goal.loop-pair-preserved
loop-pair-preserved c =
    let k = c.loop-pair.pair-index in
    let rest = drop (k + 1) c.args.lost.now in
    let left = subst (λ (xs : List (ℕ × ℕ)). Takes c.args.lost.now xs c.args.held.now c.loop-pair.held) (drop_more c.args.lost.now k (0, 0) c.loop-pair-test.true) c.loop-pair.invariant in
    subst (λ (h : SeenItems). Takes c.args.lost.now rest c.args.held.now h) (sym c.unnumber.ensures)
    (takes_more c.args.lost.now rest (get_or c.args.lost.now k (0, 0)) c.args.held.now c.loop-pair.held c.items_stand_in_order.ensures.differ c.items_stand_in_order.ensures.ascends left)
