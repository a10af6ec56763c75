-- A walk over the items of one line, and how many of them are before an item.
use Rattle.std.proofs.Common.{◌≡◌, refl, sym, ap, ◌∙◌, subst, ℕ, ◌+◌, ◌<◌, ◌≤◌, ◌&&◌, Bool, true, false, cond, List, [], ◌∷◌, ◌++◌, length, Option, Some, None, nat_lt, arith}
use Rattle.std.specs.Prelude.{slice_get}
use Rattle.std.proofs.lemmas.List.{map-append}
use Rattle.std.proofs.lemmas.List.Sums.{sum_by_push, count_by-le-length}
use Rattle.slot_chains.specs.Chained.{first_of}
use Rattle.machine.specs.declared.items.Delivery.{Delivery}
use Rattle.machine.specs.declared.items.Item.{Item}
use Rattle.machine.specs.declared.items.Waiting.{Waiting}
use Rattle.machine.specs.Holds.{earlier, wakes}
use Rattle.machine_settling.specs.Lines.{line}
use Rattle.machine_settling.proofs.Members.{AscendsFrom, ascends_lower}
use Rattle.machine_settling.proofs.Places.{earlier-none, line-place}
use Rattle.machine_settling.proofs.Settles.{earlier-cons}
use Rattle.hub_items.specs.Sound.{AscendTo}
use Rattle.held_items.specs.Entries.{Entry, flat, index}
use Rattle.held_items.proofs.IndexLemmas.{some}
use Rattle.held_items.proofs.IndexWalks.{IsAlong, IsStanding, along_all, along_next, along_none, flat_some}

-- ---- in order of making

pub ascends_from : (low next : ℕ) (items : List Item) → AscendTo low next items → AscendsFrom low items
ascends_from low next [] a = tt
ascends_from low next (i ∷ items) a = record { above = a.above; rest = ascends_from (i.since + 1) next items a.rest }

ascends_some : (test : Delivery → Bool) (low : ℕ) (es : List Entry) → AscendsFrom low (flat es) → AscendsFrom low (flat (some test es))
ascends_some test low [] a = tt
ascends_some test low (e ∷ es) a = by (test e.1.delivery) (ascends_some test (e.1.since + 1) es a.rest)
  where
    by : (b : Bool) → AscendsFrom (e.1.since + 1) (flat (some test es)) → AscendsFrom low (flat (cond b (e ∷ some test es) (some test es)))
    by true r = record { above = a.above; rest = r }
    by false r = ascends_lower (e.1.since + 1) low (flat (some test es)) (let b = a.above in omega (arith, b)) r

ascends_behind : (low : ℕ) (xs : List Item) (i : Item) (ys : List Item) → AscendsFrom low (xs ++ i ∷ ys) → AscendsFrom i.since (i ∷ ys)
ascends_behind low [] i ys a = record { above = omega arith; rest = a.rest }
ascends_behind low (x ∷ xs) i ys a = ascends_behind (x.since + 1) xs i ys a.rest

-- the items before the one that the walk stands at, itself, and the others
pub standing_flat : (test : Delivery → Bool) (es : List Entry) (at : Option ℕ) (q : ℕ) (a : IsAlong test es at) (s : IsStanding test es at q a) → flat (some test es) ≡ flat a.front ++ s.item ∷ flat s.others
standing_flat test es at q a s = ap flat s.parts ∙ map-append (λ (e : Entry). e.1) a.front ((q, s.item) ∷ s.others)

-- those that the walk has not passed are no older than the item that it stands at
pub rest_ascends : (test : Delivery → Bool) (next : ℕ) (es : List Entry) (at : Option ℕ) (q : ℕ) (a : IsAlong test es at) (s : IsStanding test es at q a) → AscendTo 0 next (flat es) →
    AscendsFrom s.item.since (s.item ∷ flat s.others)
rest_ascends test next es at q a s ascends =
    ascends_behind 0 (flat a.front) s.item (flat s.others)
    (subst (λ (is : List Item). AscendsFrom 0 is) (standing_flat test es at q a s) (ascends_some test 0 es (ascends_from 0 next (flat es) ascends)))

-- those that were passed are fewer than there are
pub standing_few : (test : Delivery → Bool) (es : List Entry) (at : Option ℕ) (q : ℕ) (a : IsAlong test es at) → IsStanding test es at q a → length (flat a.front) < length es
standing_few test es at q a s =
    let all = ap length s.parts in
    let both = length_both a.front ((q, s.item) ∷ s.others) in
    let same = length_flat a.front in
    let most = not_more es in
    omega (arith, all, both, same, most)
  where
    length_both : (xs ys : List Entry) → length (xs ++ ys) ≡ length xs + length ys
    length_both [] ys = omega arith
    length_both (x ∷ xs) ys = let r = length_both xs ys in omega (arith, r)

    length_flat : (xs : List Entry) → length (flat xs) ≡ length xs
    length_flat [] = refl
    length_flat (x ∷ xs) = let r = length_flat xs in omega (arith, r)

    not_more : (xs : List Entry) → length (some test xs) ≤ length xs
    not_more [] = omega arith
    not_more (x ∷ xs) = step (test x.1.delivery) (not_more xs)
      where
        step : (b : Bool) → length (some test xs) ≤ length xs → length (cond b (x ∷ some test xs) (some test xs)) ≤ length (x ∷ xs)
        step true l = omega (arith, l)
        step false l = omega (arith, l)

-- ---- those before the item that the walk stands at are those that were passed

get_between : (xs : List Item) (i : Item) (ys : List Item) → slice_get (xs ++ i ∷ ys) (length xs) ≡ Some i
get_between [] i ys = refl
get_between (x ∷ xs) i ys = get_between xs i ys

pub line_standing : (test : Waiting → Bool) (next : ℕ) (es : List Entry) (at : Option ℕ) (q : ℕ) (a : IsAlong (wakes test) es at) (s : IsStanding (wakes test) es at q a) → AscendTo 0 next (flat es) →
    earlier test s.item.since (flat es) ≡ length (flat a.front)
line_standing test next es at q a s ascends =
    let whole : line test (flat es) ≡ flat a.front ++ s.item ∷ flat s.others = sym (flat_some (wakes test) es) ∙ standing_flat (wakes test) es at q a s in
    line-place test 0 (length (flat a.front)) s.item (flat es) (ascends_from 0 next (flat es) ascends)
    (ap (λ (is : List Item). slice_get is (length (flat a.front))) whole ∙ get_between (flat a.front) s.item (flat s.others))

-- ---- how many are before a since

earlier_both : (test : Waiting → Bool) (since : ℕ) (xs ys : List Item) → earlier test since (xs ++ ys) ≡ earlier test since xs + earlier test since ys
earlier_both test since [] ys = omega arith
earlier_both test since (x ∷ xs) ys =
    let rest = earlier_both test since xs ys in
    let one = earlier-cons test since x xs in
    let all = earlier-cons test since x (xs ++ ys) in
    omega (arith, rest, one, all)

earlier_some : (test : Waiting → Bool) (since : ℕ) (es : List Entry) → earlier test since (flat es) ≡ earlier test since (flat (some (wakes test) es))
earlier_some test since [] = refl
earlier_some test since (e ∷ es) = earlier-cons test since e.1 (flat es) ∙ by (wakes test e.1.delivery) refl (earlier_some test since es)
  where
    none : (b : Bool) → ◌≡◌ {A = ℕ} (cond (b && false) 1 0) 0
    none true = refl
    none false = refl

    by : (b : Bool) → wakes test e.1.delivery ≡ b → earlier test since (flat es) ≡ earlier test since (flat (some (wakes test) es)) →
        cond (nat_lt e.1.since since && wakes test e.1.delivery) 1 0 + earlier test since (flat es) ≡ earlier test since (flat (cond b (e ∷ some (wakes test) es) (some (wakes test) es)))
    by true t r = ap (λ n. cond (nat_lt e.1.since since && wakes test e.1.delivery) 1 0 + n) r ∙ sym (earlier-cons test since e.1 (flat (some (wakes test) es)))
    by false t r = let n = ap (λ b. cond (nat_lt e.1.since since && b) 1 0) t ∙ none (nat_lt e.1.since since) in omega (arith, n, r)

-- so many of those that were passed are before the since
pub record IsEarlier (test : Waiting → Bool) (since : ℕ) (es : List Entry) (at : Option ℕ) (n : ℕ) : Type 0 where
  pub along : IsAlong (wakes test) es at
  pub count : n ≡ earlier test since (flat along.front)

pub earlier_begun : (test : Waiting → Bool) (since : ℕ) (es : List Entry) (at : Option ℕ) → at ≡ first_of (index (wakes test) es) None → IsEarlier test since es at 0
earlier_begun test since es at h = record { along = along_none (wakes test) es at h; count = refl }

-- the item that the walk stands at is before it too
pub earlier_more : (test : Waiting → Bool) (since : ℕ) (es : List Entry) (at next : Option ℕ) (n m q : ℕ) (i : Item) (e : IsEarlier test since es at n) (s : IsStanding (wakes test) es at q e.along) → s.item ≡ i →
    nat_lt i.since since ≡ true → m ≡ n + 1 → ((xs ys : List ℕ) → index (wakes test) es ≡ xs ++ q ∷ ys → next ≡ first_of ys None) → IsEarlier test since es next m
earlier_more test since es at next n m q i e s same older more goes = record {
  along = along_next (wakes test) es at next q e.along s goes;
  count =
      more
      ∙ ap (λ k. k + 1) e.count
      ∙ ap (λ b. earlier test since (flat e.along.front) + cond b 1 0) (sym counts)
      ∙ sym (sum_by_push (λ (j : Item). cond (nat_lt j.since since && wakes test j.delivery) 1 0) (flat e.along.front) s.item)
      ∙ ap (earlier test since) (sym (map-append (λ (x : Entry). x.1) e.along.front ((q, s.item) ∷ [])));
}
  where
    counts : (nat_lt s.item.since since && wakes test s.item.delivery) ≡ true
    counts = ap (λ (x : Item). nat_lt x.since since && wakes test s.item.delivery) same ∙ ap (λ b. b && wakes test s.item.delivery) older ∙ s.among.passes

pub earlier_ended : (test : Waiting → Bool) (since : ℕ) (es : List Entry) (at : Option ℕ) (n : ℕ) → IsEarlier test since es at n → at ≡ None → n ≡ earlier test since (flat es)
earlier_ended test since es at n e h = e.count ∙ ap (λ xs. earlier test since (flat xs)) (sym (along_all (wakes test) es at e.along h)) ∙ sym (earlier_some test since es)

-- the item that the walk stands at is not, and so none of those behind it
pub earlier_stopped : (test : Waiting → Bool) (since next : ℕ) (es : List Entry) (at : Option ℕ) (n q : ℕ) (i : Item) (e : IsEarlier test since es at n) (s : IsStanding (wakes test) es at q e.along) → s.item ≡ i →
    AscendTo 0 next (flat es) → since ≤ i.since → n ≡ earlier test since (flat es)
earlier_stopped test since next es at n q i e s same ascends newer =
    let none : earlier test since (s.item ∷ flat s.others) ≡ 0 =
    earlier-none test since s.item.since (s.item ∷ flat s.others) (let k = ap (λ (x : Item). x.since) same in omega (arith, k, newer)) (rest_ascends (wakes test) next es at q e.along s ascends) in
    let parts = ap (earlier test since) (standing_flat (wakes test) es at q e.along s) ∙ earlier_both test since (flat e.along.front) (s.item ∷ flat s.others) in
    let all = earlier_some test since es in
    let count = e.count in
    omega (arith, none, parts, all, count)

pub earlier_few : (test : Waiting → Bool) (since : ℕ) (es : List Entry) (at : Option ℕ) (n q : ℕ) (e : IsEarlier test since es at n) → IsStanding (wakes test) es at q e.along → n < length es
earlier_few test since es at n q e s =
    let most = count_by-le-length (λ (i : Item). nat_lt i.since since && wakes test i.delivery) (flat e.along.front) in
    let few = standing_few (wakes test) es at q e.along s in
    let count = e.count in
    omega (arith, most, few, count)
