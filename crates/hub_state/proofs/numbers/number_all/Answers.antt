use Rattle.std.proofs.Common.{List, ℕ, get_or, sym, subst, drop, ◌+◌, inl, refl}
use Rattle.std.proofs.lemmas.List.{drop_more}
use Rattle.held_items.specs.Entries.{SeenItems}
use Rattle.hub_state.proofs.Numbering.{Gives, gives_more, gives_none, may_gain}
use Rattle.hub_state.proofs.numbers.number_all.Goals as goal

pub loop-pair-init : goal.loop-pair-init
loop-pair-init c = gives_none c.args.gained.now c.args.held.now c.requires.ready

pub number-requires-clause-there : goal.number-requires-clause-there
number-requires-clause-there c =
    let k = c.loop-pair.pair-index in
    let p = get_or c.args.gained.now k (0, 0) in
    let left = subst (λ (xs : List (ℕ × ℕ)). Gives c.args.gained.now xs k c.args.held.now c.loop-pair.held) (drop_more c.args.gained.now k (0, 0) c.loop-pair-test.true) c.loop-pair.invariant in
    may_gain c.loop-pair.held.entries p (left.there p (inl refl))

pub loop-pair-preserved : goal.loop-pair-preserved
loop-pair-preserved c =
    let k = c.loop-pair.pair-index in
    let rest = drop (k + 1) c.args.gained.now in
    let left = subst (λ (xs : List (ℕ × ℕ)). Gives c.args.gained.now xs k c.args.held.now c.loop-pair.held) (drop_more c.args.gained.now k (0, 0) c.loop-pair-test.true) c.loop-pair.invariant in
    subst (λ (h : SeenItems). Gives c.args.gained.now rest (k + 1) c.args.held.now h) (sym c.number.ensures)
    (gives_more c.args.gained.now rest k (get_or c.args.gained.now k (0, 0)) c.args.held.now c.loop-pair.held c.items_stand_in_order.ensures.differ c.items_stand_in_order.ensures.ascends left)
