use Rattle.std.proofs.Common.{◌≡◌, ◌-◌, ℕ, Some, None, sym, ap, subst, ◌∙◌, arith, List}
use Rattle.held_items.specs.declared.tallies.Tally.{Tally}
use Rattle.held_items.specs.Entries.{without_slot}
use Rattle.held_items.specs.Tallied.{tally_at, tally_in}
use Rattle.held_items.proofs.Tallying.{counted_there, exchanged_without, key_tallied, none_tallied}
use Rattle.held_items.proofs.tallies.Tallies.leave.Goals as goal

pub overflow_sub-tally : goal.overflow_sub-tally
overflow_sub-tally c =
    let r = c.requires in
    let t = counted_there _ c.in-Some.key r.0 c.args.item.now r.1 r.3 r.2 (sym c.waits_key.ensures.value ∙ c.in-Some.is) r.4 in
    let a = t.waiting in
    let e = ap (λ (t : Tally). t.waiting) c.at-tally.ensures in
    omega (arith, a, e)

pub overflow_sub-tally-in-Some : goal.overflow_sub-tally-in-Some
overflow_sub-tally-in-Some c =
    let r = c.requires in
    let t = counted_there _ c.in-Some.key r.0 c.args.item.now r.1 r.3 r.2 (sym c.waits_key.ensures.value ∙ c.in-Some.is) r.4 in
    let a = t.numbered in
    let e = ap (λ (t : Tally). t.numbered) c.at-tally.ensures in
    let o = c.one_if.ensures in
    omega (arith, a, e, o)

pub set-requires : goal.set-requires
set-requires c =
    let r = c.requires in
    (counted_there _ c.in-Some.key r.0 c.args.item.now r.1 r.3 r.2 (sym c.waits_key.ensures.value ∙ c.in-Some.is) r.4).within

pub returns-in-Some : goal.returns-in-Some
returns-in-Some c = λ q es there differ are.
    let key = sym c.waits_key.ensures.value ∙ c.in-Some.is in
    let n = c.in-Some.key in
    let t = counted_there _ n q c.args.item.now es differ there key are in
    let w = t.waiting in
    let m = t.numbered in
    let e = ap (λ (t : Tally). t.waiting) c.at-tally.ensures in
    let f = ap (λ (t : Tally). t.numbered) c.at-tally.ensures in
    let o = c.one_if.ensures in
    subst (λ (table : List Tally). (k : ℕ) → tally_at table k ≡ tally_in (without_slot q es) k) (sym c.set.ensures)
    (key_tallied c.args.self.now.table.items n (record { waiting = c.at-tally.result.waiting - 1; numbered = c.at-tally.result.numbered - c.one_if.result }) (Some c.args.item.now) None es (without_slot q es) t.within
    (exchanged_without es q c.args.item.now differ there) key tt (omega (arith, w, e)) (omega (arith, m, f, o)) are)

pub returns-in_default : goal.returns-in_default
returns-in_default c = λ q es there differ are.
    none_tallied _ (Some c.args.item.now) None es (without_slot q es) (exchanged_without es q c.args.item.now differ there) (sym c.waits_key.ensures.value ∙ c.in_default.is) tt are
