-- How many wait for each thing, as items come, go, and get their numbers.
use Rattle.std.proofs.Common.{◌≡◌, ℕ, zero, suc, ◌+◌, ◌^◌, ◌<◌, ◌≤◌, ◌&&◌, Bool, true, false, cond, List, [], ◌∷◌, ◌++◌, length, set, Option, Some, None, refl, sym, ap, ◌∙◌, subst, arith, inl, inr, get_or-set_same, get_or-set_other, nat_lt}
use Rattle.std.specs.Prelude.{count_by, is_some}
use Rattle.std.proofs.Math.Path.{fun_ext}
use Rattle.std.proofs.lemmas.Bool.{cases_eq}
use Rattle.std.proofs.lemmas.Bool.Decides.{nat_tests}
use Rattle.std.proofs.lemmas.List.Sums.{count_by-le-length, sum_by-cons, sum_by-le-sum_by}
use Rattle.std.proofs.lemmas.List.{length-map}
use Rattle.item_places.specs.Items.{Differ}
use Rattle.machine.specs.declared.items.Delivery.{Delivery}
use Rattle.machine.specs.declared.items.Item.{Item}
use Rattle.machine.specs.declared.items.Waiting.{Waiting}
use Rattle.machine.specs.Holds.{earlier, wakes}
use Rattle.hub_items.specs.declared.waits.WaitKind.{WaitKind}
use Rattle.hub_items.specs.Sound.{AscendTo}
use Rattle.hub_items.specs.WaitKinds.{test_of}
use Rattle.held_items.specs.declared.tallies.Tally.{Tally}
use Rattle.held_items.specs.Entries.{Entry, item_in, slots_of, with_ready, without_slot, index, flat}
use Rattle.held_items.specs.Indexed.{is_key}
use Rattle.held_items.specs.Lined.{one_if, one}
use Rattle.held_items.specs.Tallied.{is_numbered_by, no_tally, numbered_in_line, tally_at, tally_in, waiting_in_line, waits_by}
use Rattle.held_items.specs.Waits.{line_column, object_place, waits_in_line, waits_key}
use Rattle.held_items.proofs.EntryLemmas.{is_same, is_other}
use Rattle.held_items.proofs.IndexLemmas.{count_pushed, count_without, count_renumbered, some}
use Rattle.held_items.proofs.WaitPlaces.{line_key}

-- ---- the slots of an index, counted

pub length_index : (test : Delivery → Bool) (es : List Entry) → length (index test es) ≡ count_by (λ (i : Item). test i.delivery) (flat es)
length_index test [] = refl
length_index test (e ∷ es) = by (test e.1.delivery) (length_index test es) ∙ sym (sum_by-cons (λ (i : Item). cond (test i.delivery) 1 0) e.1 (flat es))
  where
    by : (b : Bool) → length (index test es) ≡ count_by (λ (i : Item). test i.delivery) (flat es) →
        length (slots_of (cond b (e ∷ some test es) (some test es))) ≡ cond b 1 0 + count_by (λ (i : Item). test i.delivery) (flat es)
    by true r = omega (arith, r)
    by false r = omega (arith, r)

-- no more are counted than there are
pub count_few : (test : Item → Bool) (es : List Entry) → count_by test (flat es) ≤ length es
count_few test es = let a = count_by-le-length test (flat es) in let b = length-map es (λ (e : Entry). e.1) in omega (arith, a, b)

-- so it is of those who wait for one thing
pub tallied_few : (table : List Tally) (es : List Entry) (k : ℕ) → tally_at table k ≡ tally_in es k → length es + 1 < 2 ^ 64 → (tally_at table k).waiting + 1 < 2 ^ 64
tallied_few table es k is few = let a = ap (λ (t : Tally). t.waiting) is in let b = count_few (waits_by k) es in omega (arith, a, b, few)

-- all who wait in a line were made before one that is made later
earlier_all : (test : Waiting → Bool) (low next since : ℕ) (es : List Entry) → next ≤ since → AscendTo low next (flat es) → earlier test since (flat es) ≡ length (index (wakes test) es)
earlier_all test low next since es h a = all low (flat es) a ∙ sym (length_index (wakes test) es)
  where
    below : (low : ℕ) (items : List Item) → AscendTo low next items → low ≤ next
    below low [] a = a
    below low (i ∷ items) a = let b = a.above in let r = below (i.since + 1) items a.rest in omega (arith, b, r)

    all : (low : ℕ) (items : List Item) → AscendTo low next items → earlier test since items ≡ count_by (λ (i : Item). wakes test i.delivery) items
    all low [] a = refl
    all low (i ∷ items) a =
        sum_by-cons (λ (j : Item). cond (nat_lt j.since since && wakes test j.delivery) 1 0) i items
        ∙ by (nat_lt i.since since) refl (below (i.since + 1) items a.rest) (all (i.since + 1) items a.rest)
        ∙ sym (sum_by-cons (λ (j : Item). cond (wakes test j.delivery) 1 0) i items)
      where
        by : (b : Bool) → nat_lt i.since since ≡ b → i.since + 1 ≤ next → earlier test since items ≡ count_by (λ (j : Item). wakes test j.delivery) items →
            cond (b && wakes test i.delivery) 1 0 + earlier test since items ≡ cond (wakes test i.delivery) 1 0 + count_by (λ (j : Item). wakes test j.delivery) items
        by true e l r = ap (λ n. cond (wakes test i.delivery) 1 0 + n) r
        by false e l r = absurd (grind (arith, nat_tests))

-- so a newcomer's place in a line is its length
pub place_in_line : (kind : WaitKind) (o next since : ℕ) (es : List Entry) → next ≤ since → AscendTo 0 next (flat es) → earlier (test_of kind o) since (flat es) ≡ waiting_in_line kind o es
place_in_line kind o next since es = earlier_all (test_of kind o) 0 next since es

-- ---- one item goes, another comes, either of which may be missing

abbrev ones : (Item → Bool) → Option Item → ℕ
ones test None = 0
ones test (Some i) = one test i

abbrev pub Exchanges : List Entry → Option Item → Option Item → List Entry → Type 0
Exchanges es out into es' = (test : Item → Bool) → count_by test (flat es') + ones test out ≡ count_by test (flat es) + ones test into

pub exchanged_pushed : (es : List Entry) (q : ℕ) (i : Item) → Exchanges es None (Some i) (es ++ (q, i) ∷ [])
exchanged_pushed es q i test = let c = count_pushed test es q i in omega (arith, c)

pub exchanged_without : (es : List Entry) (q : ℕ) (i : Item) → Differ (slots_of es) → item_in q es ≡ Some i → Exchanges es (Some i) None (without_slot q es)
exchanged_without es q i differ there test = let c = count_without test q es i differ there in omega (arith, c)

pub exchanged_renumbered : (es : List Entry) (q : ℕ) (n : Option ℕ) (i : Item) → Differ (slots_of es) → item_in q es ≡ Some i → Exchanges es (Some i) (Some (record i { ready = n })) (with_ready q n es)
exchanged_renumbered es q n i differ there test = count_renumbered test q n es i differ there

-- the item, if there is one, has this key
abbrev pub IsKeyOf : Option ℕ → Option Item → Type 0
IsKeyOf key None = Unit {0}
IsKeyOf key (Some i) = waits_key i.delivery ≡ key

-- 1 for an item that waits for what has the key, and 1 for one with a number
abbrev pub comes : Option Item → ℕ
comes None = 0
comes (Some i) = 1

abbrev pub comes_numbered : Option Item → ℕ
comes_numbered None = 0
comes_numbered (Some i) = one_if i.ready

of_others : (key : Option ℕ) (k : ℕ) (item : Option Item) → IsKeyOf key item → is_key k key ≡ false → (ones (waits_by k) item ≡ 0) × (ones (is_numbered_by k) item ≡ 0)
of_others key k None h e = (refl, refl)
of_others key k (Some i) h e = let t : waits_by k i ≡ false = ap (is_key k) h ∙ e in (ap (λ b. cond b 1 0) t, ap (λ b. cond (is_some i.ready && b) 1 0) t ∙ by i.ready)
  where
    by : (r : Option ℕ) → ◌≡◌ {A = ℕ} (cond (is_some r && false) 1 0) 0
    by None = refl
    by (Some n) = refl

of_its : (n : ℕ) (item : Option Item) → IsKeyOf (Some n) item → (ones (waits_by n) item ≡ comes item) × (ones (is_numbered_by n) item ≡ comes_numbered item)
of_its n None h = (refl, refl)
of_its n (Some i) h = let t : waits_by n i ≡ true = ap (is_key n) h ∙ is_same n n refl in (ap (λ b. cond b 1 0) t, ap (λ b. cond (is_some i.ready && b) 1 0) t ∙ by i.ready)
  where
    by : (r : Option ℕ) → ◌≡◌ {A = ℕ} (cond (is_some r && true) 1 0) (one_if r)
    by None = refl
    by (Some n) = refl

same_tally : (t u : Tally) → t.waiting ≡ u.waiting → t.numbered ≡ u.numbered → t ≡ u
same_tally t u a b = ◌∙◌ {b = record { waiting = u.waiting; numbered = t.numbered }} (ap (λ (n : ℕ). record { waiting = n; numbered = t.numbered }) a) (ap (λ (n : ℕ). record { waiting = u.waiting; numbered = n }) b)

others_same : (key : Option ℕ) (k : ℕ) (out into : Option Item) (es es' : List Entry) → Exchanges es out into es' → IsKeyOf key out → IsKeyOf key into → is_key k key ≡ false → tally_in es' k ≡ tally_in es k
others_same key k out into es es' x o i e =
    let a = of_others key k out o e in
    let b = of_others key k into i e in
    let c = x (waits_by k) in
    let d = x (is_numbered_by k) in
    let a0 = a.0 in let a1 = a.1 in let b0 = b.0 in let b1 = b.1 in
    same_tally (tally_in es' k) (tally_in es k) (omega (arith, a0, b0, c)) (omega (arith, a1, b1, d))

-- an item without a key
pub none_tallied : (table : List Tally) (out into : Option Item) (es es' : List Entry) → Exchanges es out into es' → IsKeyOf None out → IsKeyOf None into →
    ((k : ℕ) → tally_at table k ≡ tally_in es k) → (k : ℕ) → tally_at table k ≡ tally_in es' k
none_tallied table out into es es' x o i are k = are k ∙ sym (others_same None k out into es es' x o i refl)

-- the tally of its key is the right one
its_tally : (n : ℕ) (t : Tally) (out into : Option Item) (es es' : List Entry) → Exchanges es out into es' → IsKeyOf (Some n) out → IsKeyOf (Some n) into →
    t.waiting + comes out ≡ (tally_in es n).waiting + comes into → t.numbered + comes_numbered out ≡ (tally_in es n).numbered + comes_numbered into → t ≡ tally_in es' n
its_tally n t out into es es' x o i w m =
    let a = of_its n out o in
    let b = of_its n into i in
    let c = x (waits_by n) in
    let d = x (is_numbered_by n) in
    let a0 = a.0 in let a1 = a.1 in let b0 = b.0 in let b1 = b.1 in
    same_tally t (tally_in es' n) (omega (arith, a0, b0, c, w)) (omega (arith, a1, b1, d, m))

pub key_tallied : (table : List Tally) (n : ℕ) (t : Tally) (out into : Option Item) (es es' : List Entry) → n < length table → Exchanges es out into es' → IsKeyOf (Some n) out → IsKeyOf (Some n) into →
    t.waiting + comes out ≡ (tally_at table n).waiting + comes into → t.numbered + comes_numbered out ≡ (tally_at table n).numbered + comes_numbered into →
    ((k : ℕ) → tally_at table k ≡ tally_in es k) → (k : ℕ) → tally_at (set table n t) k ≡ tally_in es' k
key_tallied table n t out into es es' within x o i w m are k = elim (cases_eq k n) [
  | inl same ↦ subst (λ j. tally_at (set table n t) j ≡ tally_in es' j) (sym same)
      (get_or-set_same table n t no_tally within
      ∙ its_tally n t out into es es' x o i (w ∙ ap (λ (y : Tally). y.waiting + comes into) (are n)) (m ∙ ap (λ (y : Tally). y.numbered + comes_numbered into) (are n)))
  | inr differs ↦ get_or-set_other table n k t no_tally differs ∙ are k ∙ sym (others_same (Some n) k out into es es' x o i (is_other k n differs))
]

-- ---- who is among the items is counted

-- the key of an item is in the table, and the item is counted there
pub record IsCounted (table : List Tally) (n : ℕ) (i : Item) : Type 0 where
  pub within : n < length table
  pub waiting : 1 ≤ (tally_at table n).waiting
  pub numbered : one_if i.ready ≤ (tally_at table n).numbered
  pub fewer : (tally_at table n).numbered + 1 ≤ (tally_at table n).waiting + one_if i.ready

within_table : (table : List Tally) (n : ℕ) → 1 ≤ (tally_at table n).waiting → n < length table
within_table [] n h = absurd (omega (arith, h))
within_table (t ∷ table) zero h = omega arith
within_table (t ∷ table) (suc n) h = let r = within_table table n h in omega (arith, r)

few_numbered : (k : ℕ) (es : List Entry) → (tally_in es k).numbered ≤ (tally_in es k).waiting
few_numbered k es = sum_by-le-sum_by (λ (i : Item). cond (is_numbered_by k i) 1 0) (λ (i : Item). cond (waits_by k i) 1 0) (flat es) (λ i. by (is_some i.ready) (waits_by k i))
  where
    by : (a b : Bool) → cond (a && b) 1 0 ≤ cond b 1 0
    by true true = omega arith
    by true false = omega arith
    by false true = omega arith
    by false false = omega arith

pub counted_there : (table : List Tally) (n q : ℕ) (i : Item) (es : List Entry) → Differ (slots_of es) → item_in q es ≡ Some i → waits_key i.delivery ≡ Some n → ((k : ℕ) → tally_at table k ≡ tally_in es k) → IsCounted table n i
counted_there table n q i es differ there key are =
    let x = exchanged_without es q i differ there in
    let a = of_its n (Some i) key in
    let a0 = a.0 in let a1 = a.1 in
    let c = x (waits_by n) in
    let d = x (is_numbered_by n) in
    let w = ap (λ (y : Tally). y.waiting) (are n) in
    let m = ap (λ (y : Tally). y.numbered) (are n) in
    let few = few_numbered n (without_slot q es) in
    let least : 1 ≤ (tally_at table n).waiting = omega (arith, a0, c, w) in record {
      within = within_table table n least;
      waiting = least;
      numbered = omega (arith, a1, d, m);
      fewer = omega (arith, a0, a1, c, d, w, m, few);
    }

-- ---- the tally of a line

pub line_waiting : (kind : WaitKind) (o : ℕ) (es : List Entry) → (tally_in es (object_place o (line_column kind))).waiting ≡ waiting_in_line kind o es
line_waiting kind o es = ap (λ (test : Item → Bool). count_by test (flat es)) (fun_ext (λ (i : Item). line_key kind o i.delivery)) ∙ sym (length_index (waits_in_line kind o) es)

pub line_numbered : (kind : WaitKind) (o : ℕ) (es : List Entry) → (tally_in es (object_place o (line_column kind))).numbered ≡ numbered_in_line kind o es
line_numbered kind o es = ap (λ (test : Item → Bool). count_by test (flat es)) (fun_ext (λ (i : Item). ap (λ b. is_some i.ready && b) (line_key kind o i.delivery)))
