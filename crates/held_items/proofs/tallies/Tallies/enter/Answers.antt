use Rattle.std.proofs.Common.{◌≡◌, ◌+◌, ◌∷◌, ◌++◌, [], ℕ, Some, None, sym, ap, subst, ◌∙◌, arith, List}
use Rattle.held_items.specs.declared.tallies.Tally.{Tally}
use Rattle.held_items.specs.Lined.{new_item}
use Rattle.held_items.specs.Tallied.{HasTally, tally_at, tally_in}
use Rattle.held_items.proofs.Tallying.{exchanged_pushed, key_tallied, none_tallied}
use Rattle.held_items.proofs.tallies.Tallies.enter.Goals as goal

pub returns-in-Some : goal.returns-in-Some
returns-in-Some c = λ q since es are.
    let i = new_item since c.args.delivery.now in
    let key = sym c.waits_key.ensures.value ∙ c.in-Some.is in
    let room = subst (HasTally c.args.self.now) key c.requires in
    let e = ap (λ (t : Tally). t.waiting) c.at-tally.ensures in
    let f = ap (λ (t : Tally). t.numbered) c.at-tally.ensures in
    subst (λ (table : List Tally). (k : ℕ) → tally_at table k ≡ tally_in (es ++ (q, i) ∷ []) k) (sym c.set.ensures)
    (key_tallied c.args.self.now.table.items c.in-Some.key (record { waiting = c.at-tally.result.waiting + 1; numbered = c.at-tally.result.numbered }) None (Some i) es (es ++ (q, i) ∷ []) room.0
    (exchanged_pushed es q i) tt key (omega (arith, e)) (omega (arith, f)) are)

pub returns-in_default : goal.returns-in_default
returns-in_default c = λ q since es are.
    let i = new_item since c.args.delivery.now in
    none_tallied _ None (Some i) es (es ++ (q, i) ∷ []) (exchanged_pushed es q i) tt (sym c.waits_key.ensures.value ∙ c.in_default.is) are
