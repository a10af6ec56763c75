use Rattle.std.proofs.Common.{◌≡◌, ◌+◌, ◌≤◌, ℕ, Some, Option, sym, ap, subst, ◌∙◌, arith, List, rules}
use Rattle.held_items.specs.declared.tallies.Tally.{Tally}
use Rattle.held_items.specs.Entries.{with_ready}
use Rattle.held_items.specs.Lined.{one_if}
use Rattle.held_items.specs.Tallied.{tally_at, tally_in}
use Rattle.held_items.proofs.Tallying.{counted_there, exchanged_renumbered, key_tallied, none_tallied}
use Rattle.held_items.proofs.tallies.Tallies.number.Goals as goal

pub overflow_add-tally : goal.overflow_add-tally
overflow_add-tally c =
    let r = c.requires in
    let t = counted_there _ c.in-Some.key r.0 c.args.item.now r.1 r.4 r.2 (sym c.waits_key.ensures.value ∙ c.in-Some.is) r.5 in
    let a = t.fewer in
    let e = ap (λ (t : Tally). t.waiting) c.at-tally.ensures in
    let f = ap (λ (t : Tally). t.numbered) c.at-tally.ensures in
    let o = ap (λ (o : Option ℕ). one_if o) r.3 in
    let b : c.at-tally.result.numbered + 1 ≤ c.at-tally.result.waiting = omega (arith, a, e, f, o) in
    search (rules, b)

pub set-requires : goal.set-requires
set-requires c =
    let r = c.requires in
    (counted_there _ c.in-Some.key r.0 c.args.item.now r.1 r.4 r.2 (sym c.waits_key.ensures.value ∙ c.in-Some.is) r.5).within

pub returns-in-Some : goal.returns-in-Some
returns-in-Some c = λ q n es there free differ are.
    let i = c.args.item.now in
    let key = sym c.waits_key.ensures.value ∙ c.in-Some.is in
    let e = ap (λ (t : Tally). t.waiting) c.at-tally.ensures in
    let f = ap (λ (t : Tally). t.numbered) c.at-tally.ensures in
    let o = ap (λ (o : Option ℕ). one_if o) free in
    subst (λ (table : List Tally). (k : ℕ) → tally_at table k ≡ tally_in (with_ready q (Some n) es) k) (sym c.set.ensures)
    (key_tallied c.args.self.now.table.items c.in-Some.key (record { waiting = c.at-tally.result.waiting; numbered = c.at-tally.result.numbered + 1 }) (Some i) (Some (record i { ready = Some n })) es (with_ready q (Some n) es)
    (counted_there _ c.in-Some.key q i es differ there key are).within
    (exchanged_renumbered es q (Some n) i differ there) key key (omega (arith, e)) (omega (arith, f, o)) are)

pub returns-in_default : goal.returns-in_default
returns-in_default c = λ q n es there free differ are.
    let i = c.args.item.now in
    let key = sym c.waits_key.ensures.value ∙ c.in_default.is in
    none_tallied _ (Some i) (Some (record i { ready = Some n })) es (with_ready q (Some n) es) (exchanged_renumbered es q (Some n) i differ there) key key are
