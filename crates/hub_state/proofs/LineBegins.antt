-- A walk over a line that begins behind the last with a number.
use Rattle.std.proofs.Common.{◌≡◌, refl, sym, ap, ◌∙◌, subst, ℕ, ◌+◌, ◌-◌, ◌<◌, ◌≤◌, Bool, true, false, List, [], ◌∷◌, ◌++◌, length, Option, Some, None, ◌⊎◌, inl, inr, append_assoc, arith, slice_get}
use Rattle.std.proofs.lemmas.List.{length-map}
use Rattle.std.specs.List.{Contains}
use Rattle.std.specs.Prelude.{is_some}
use Rattle.item_places.specs.Items.{Differ}
use Rattle.slot_chains.specs.Chained.{first_of, last_of}
use Rattle.slot_chains.proofs.Chaining.{IsSplit, split}
use Rattle.machine.specs.declared.items.Delivery.{Delivery}
use Rattle.machine.specs.declared.items.Item.{Item}
use Rattle.machine.specs.Holds.{earlier, holds}
use Rattle.machine.specs.State.{State}
use Rattle.machine_settling.specs.Fronts.{NumbersStandInFront}
use Rattle.machine_settling.specs.Numbers.{loses_number, needs_number}
use Rattle.hub_items.specs.declared.waits.WaitKind.{WaitKind}
use Rattle.hub_items.specs.Sound.{AscendTo}
use Rattle.hub_items.specs.WaitKinds.{test_of}
use Rattle.held_items.specs.Entries.{Entry, flat, index, item_in, slots_of}
use Rattle.held_items.specs.Tallied.{numbered_in_line, waiting_in_line}
use Rattle.held_items.specs.Waits.{waits_in_line}
use Rattle.held_items.proofs.IndexLemmas.{index_contains, some}
use Rattle.held_items.proofs.IndexWalks.{IsAlong, IsStanding, along_at}
use Rattle.held_items.proofs.LineWalks.{line_standing}
use Rattle.held_items.proofs.Ordering.{same_item}
use Rattle.hub_state.specs.Found.{Delivers, IsLastNumbered, PassesBy, SeenFound}
use Rattle.hub_state.specs.Waiters.{holds_in_line}
use Rattle.hub_state.proofs.Alongs.{AmongTest, IsOnLine}
use Rattle.hub_state.proofs.Finding.{found_as, in_flat}
use Rattle.hub_state.proofs.SettledLines.{gains_none, holds_by, loses_none, numbered_few, stands_so}

-- ---- where a slot stands in its line

-- the entries before and behind a place, by their slots
record IsParted (es : List Entry) (xs ys : List ℕ) : Type 0 where
  front : List Entry
  rest : List Entry
  is : es ≡ front ++ rest
  before : slots_of front ≡ xs
  behind : slots_of rest ≡ ys

parted : (es : List Entry) (xs ys : List ℕ) → slots_of es ≡ xs ++ ys → IsParted es xs ys
parted es [] ys e = record { front = []; rest = es; is = refl; before = refl; behind = e }
parted [] (x ∷ xs) ys e = absurd (cc)
parted (z ∷ es) (x ∷ xs) ys e =
    let more = parted es xs ys (cc) in
    let here : z.0 ≡ x = cc in
    record { front = z ∷ more.front; rest = more.rest; is = ap (λ zs. z ∷ zs) more.is; before = ap (λ qs. z.0 ∷ qs) more.before ∙ ap (λ q. q ∷ xs) here; behind = more.behind }

-- its item, and how many are before it
record Stands (kind : WaitKind) (o : ℕ) (es : List Entry) (before : List ℕ) (q : ℕ) : Type 0 where
  item : Item
  there : item_in q es ≡ Some item
  passes : waits_in_line kind o item.delivery ≡ true
  place : earlier (test_of kind o) item.since (flat es) ≡ length before

stands : (kind : WaitKind) (o next : ℕ) (es : List Entry) (xs ys : List ℕ) (q : ℕ) → Differ (slots_of es) → AscendTo 0 next (flat es) → index (waits_in_line kind o) es ≡ xs ++ q ∷ ys → Stands kind o es xs q
stands kind o next es xs ys q differ ascends e =
    let p = parted (some (waits_in_line kind o) es) xs (q ∷ ys) e in
    let along : IsAlong (waits_in_line kind o) es (Some q) = record { front = p.front; rest = p.rest; parts = p.is; here = ap (λ qs. first_of qs None) (sym p.behind) } in
    let st : IsStanding (waits_in_line kind o) es (Some q) q along = along_at (waits_in_line kind o) es (Some q) q along differ refl in
    record {
      item = st.item;
      there = st.there;
      passes = st.among.passes;
      place = line_standing (test_of kind o) next es (Some q) q along st ascends ∙ length-map p.front (λ (x : Entry). x.1) ∙ sym (length-map p.front (λ (x : Entry). x.0)) ∙ ap length p.before;
    }

last_at : (p : Option ℕ) (xs : List ℕ) (q : ℕ) → last_of p (xs ++ q ∷ []) ≡ Some q
last_at p [] q = refl
last_at p (x ∷ xs) q = last_at (Some x) xs q

-- a list that ends in this slot
ended_by : (p : Option ℕ) (xs : List ℕ) (q : ℕ) → last_of p xs ≡ Some q → (xs ≡ []) ⊎ ((ys : List ℕ) × (xs ≡ ys ++ q ∷ []))
ended_by p [] q e = inl refl
ended_by p (x ∷ xs) q e = by (ended_by (Some x) xs q e)
  where
    by : (xs ≡ []) ⊎ ((ys : List ℕ) × (xs ≡ ys ++ q ∷ [])) → (x ∷ xs ≡ []) ⊎ ((ys : List ℕ) × (x ∷ xs ≡ ys ++ q ∷ []))
    by (inl none) = let same : x ≡ q = cc (sym (ap (last_of (Some x)) none) ∙ e) in inr ([], ap (λ zs. x ∷ zs) none ∙ ap (λ z. z ∷ []) same)
    by (inr (ys, more)) = inr (x ∷ ys, ap (λ zs. x ∷ zs) more)

ended : (xs : List ℕ) (q : ℕ) → last_of None xs ≡ Some q → (ys : List ℕ) × (xs ≡ ys ++ q ∷ [])
ended xs q e = by (ended_by None xs q e)
  where
    by : (xs ≡ []) ⊎ ((ys : List ℕ) × (xs ≡ ys ++ q ∷ [])) → (ys : List ℕ) × (xs ≡ ys ++ q ∷ [])
    by (inl none) = absurd (cc (sym e ∙ ap (last_of None) none))
    by (inr more) = more

length_both : (xs ys : List ℕ) → length (xs ++ ys) ≡ length xs + length ys
length_both [] ys = omega arith
length_both (x ∷ xs) ys = let r = length_both xs ys in omega (arith, r)

-- ---- where it begins

pub last_numbered : (test : Delivery → Bool) (es : List Entry) (q : ℕ) (i : Item) (at : Option ℕ) → item_in q es ≡ Some i → test i.delivery ≡ true → is_some i.ready ≡ true →
    ((xs ys : List ℕ) → index test es ≡ xs ++ q ∷ ys → at ≡ first_of ys None) → ((r : ℕ) (j : Item) → at ≡ Some r → item_in r es ≡ Some j → is_some j.ready ≡ false) → IsLastNumbered test es q
last_numbered test es q i at there passes ready goes after = record { item = i; there = there; passes = passes; ready = ready; last = λ xs ys r j e f t. after r j (goes xs ys e ∙ f) t }

-- the one that follows has no number
pub follower_has_none : (es : List Entry) (at : Option ℕ) (p : ℕ) (j : Item) → at ≡ Some p → item_in p es ≡ Some j → is_some j.ready ≡ false → (r : ℕ) (i : Item) → at ≡ Some r → item_in r es ≡ Some i → is_some i.ready ≡ false
follower_has_none es at p j e there none r i f here =
    let slot : p ≡ r = cc in
    let same : j ≡ i = same_item r es j i (subst (λ q. item_in q es ≡ Some j) slot there) here in
    ap (λ (x : Item). is_some x.ready) (sym same) ∙ none

pub passes_none : (test : Delivery → Bool) (s : State) (es : List Entry) (at : Option ℕ) → at ≡ first_of (index test es) None → PassesBy test s es at 0
passes_none test s es at h = record { passed = []; left = index test es; is = refl; here = h; count = refl; agrees = λ q i t c. absurd (let below = c.1 in omega (arith, below)) }

-- the walk to the front stands here: so many are before the next place in its line, all of which have numbers
pub record IsBack (kind : WaitKind) (o : ℕ) (es : List Entry) (at : Option ℕ) (n : ℕ) : Type 0 where
  pub front : List ℕ
  pub behind : List ℕ
  pub is : index (waits_in_line kind o) es ≡ front ++ behind
  pub here : at ≡ last_of None front
  pub count : n ≡ length front
  pub few : n ≤ numbered_in_line kind o es

-- at first it stands at the last with a number
pub back_from : (kind : WaitKind) (o next n : ℕ) (s : State) (es : List Entry) (q : ℕ) → Differ (slots_of es) → AscendTo 0 next (flat es) → s.items ≡ flat es → NumbersStandInFront s → n ≡ numbered_in_line kind o es →
    IsLastNumbered (waits_in_line kind o) es q → IsBack kind o es (Some q) n
back_from kind o next n s es q differ ascends items front e l = record {
  front = passed;
  behind = sp.back;
  is = whole;
  here = sym (last_at None sp.front q);
  count = (let few = no_more sp.back refl in let more = enough in omega (arith, e, few, more, long));
  few = omega (arith, e);
}
  where
    sp : IsSplit (index (waits_in_line kind o) es) q
    sp = split (index (waits_in_line kind o) es) q (index_contains (waits_in_line kind o) q es l.item l.there l.passes)

    passed : List ℕ
    passed = sp.front ++ q ∷ []

    whole : index (waits_in_line kind o) es ≡ passed ++ sp.back
    whole = sp.parts ∙ sym (append_assoc sp.front (q ∷ []) sp.back)

    long : length passed ≡ length sp.front + 1
    long = length_both sp.front (q ∷ [])

    -- so many are before its item, which has a number
    enough : length sp.front + 1 ≤ numbered_in_line kind o es
    enough =
        let st = stands kind o next es sp.front sp.back q differ ascends sp.parts in
        let same : st.item ≡ l.item = same_item q es st.item l.item st.there l.there in
        let place : earlier (test_of kind o) l.item.since (flat es) ≡ length sp.front = ap (λ (i : Item). earlier (test_of kind o) i.since (flat es)) (sym same) ∙ st.place in
        let more = (stands_so kind o s es l.item items front (in_flat q l.item es l.there) l.passes).numbered l.ready in
        omega (arith, place, more)

    -- and none of those behind it has one
    no_more : (back : List ℕ) → sp.back ≡ back → numbered_in_line kind o es ≤ length sp.front + 1
    no_more [] b =
        let all : waiting_in_line kind o es ≡ length sp.front + 1 = ap length sp.parts ∙ ap (λ ys. length (sp.front ++ q ∷ ys)) b ∙ long in
        let few = numbered_few kind o es in
        omega (arith, all, few)
    no_more (r ∷ back) b =
        let st = stands kind o next es passed back r differ ascends (whole ∙ ap (λ ys. passed ++ ys) b) in
        let none = l.last sp.front sp.back r st.item sp.parts (ap (λ ys. first_of ys None) b) st.there in
        let few = (stands_so kind o s es st.item items front (in_flat r st.item es st.there) st.passes).waiting none in
        let place = st.place in
        omega (arith, few, place, long)

-- the slot that it stands at, and those before it
pub record IsAtBack (kind : WaitKind) (o : ℕ) (es : List Entry) (at : Option ℕ) (n q : ℕ) (b : IsBack kind o es at n) : Type 0 where
  pub before : List ℕ
  pub front_is : b.front ≡ before ++ q ∷ []
  pub parts : index (waits_in_line kind o) es ≡ before ++ q ∷ b.behind
  pub count : n ≡ length before + 1

pub back_at : (kind : WaitKind) (o : ℕ) (es : List Entry) (at : Option ℕ) (n q : ℕ) (b : IsBack kind o es at n) → at ≡ Some q → IsAtBack kind o es at n q b
back_at kind o es at n q b e = by (ended b.front q (sym b.here ∙ e))
  where
    by : (xs : List ℕ) × (b.front ≡ xs ++ q ∷ []) → IsAtBack kind o es at n q b
    by (xs, f) = record {
      before = xs;
      front_is = f;
      parts = b.is ∙ ap (λ ys. ys ++ b.behind) f ∙ append_assoc xs (q ∷ []) b.behind;
      count = (let a = b.count in let long = ap length f in let two = length_both xs (q ∷ []) in omega (arith, a, long, two));
    }

-- and goes on to the one before it
pub back_on : (kind : WaitKind) (o : ℕ) (es : List Entry) (at previous : Option ℕ) (n q : ℕ) (b : IsBack kind o es at n) (a : IsAtBack kind o es at n q b) →
    ((xs ys : List ℕ) → index (waits_in_line kind o) es ≡ xs ++ q ∷ ys → previous ≡ last_of None xs) → IsBack kind o es previous (n - 1)
back_on kind o es at previous n q b a goes = record {
  front = a.before;
  behind = q ∷ b.behind;
  is = a.parts;
  here = goes a.before b.behind a.parts;
  count = (let c = a.count in omega (arith, c));
  few = (let f = b.few in omega (arith, f));
}

-- where it stands at one that holds, all up to it have numbers and hold
pub passes_back : (kind : WaitKind) (o next n : ℕ) (s : State) (es : List Entry) (at follower : Option ℕ) (q : ℕ) (b : IsBack kind o es at n) → Differ (slots_of es) → AscendTo 0 next (flat es) → s.items ≡ flat es → NumbersStandInFront s →
    IsAtBack kind o es at n q b → holds_in_line kind (n - 1) (slice_get s.objects o) ≡ true → ((xs ys : List ℕ) → index (waits_in_line kind o) es ≡ xs ++ q ∷ ys → follower ≡ first_of ys None) →
    PassesBy (waits_in_line kind o) s es follower n
passes_back kind o next n s es at follower q b differ ascends items front a holding goes = record {
  passed = b.front;
  left = b.behind;
  is = b.is;
  here = goes a.before b.behind a.parts;
  count = b.count;
  agrees = agrees;
}
  where
    agrees : (r : ℕ) (i : Item) → item_in r es ≡ Some i → Contains b.front r → is_some i.ready ≡ holds s i
    agrees r i there c = by (is_some i.ready) refl
      where
        mid : IsSplit b.front r
        mid = split b.front r c

        st : Stands kind o es mid.front r
        st = stands kind o next es mid.front (mid.back ++ b.behind) r differ ascends (b.is ∙ ap (λ qs. qs ++ b.behind) mid.parts ∙ append_assoc mid.front (r ∷ mid.back) b.behind)

        same : st.item ≡ i
        same = same_item r es st.item i st.there there

        waits : waits_in_line kind o i.delivery ≡ true
        waits = ap (λ (x : Item). waits_in_line kind o x.delivery) (sym same) ∙ st.passes

        place : earlier (test_of kind o) i.since (flat es) ≡ length mid.front
        place = ap (λ (x : Item). earlier (test_of kind o) x.since (flat es)) (sym same) ∙ st.place

        short : length mid.front < length b.front
        short = let e = ap length mid.parts in let two = length_both mid.front (r ∷ mid.back) in omega (arith, e, two)

        by : (x : Bool) → is_some i.ready ≡ x → is_some i.ready ≡ holds s i
        by true e = e ∙ sym (holds_by kind o (n - 1) s es i items waits (let m = short in let p = place in let k = b.count in omega (arith, m, p, k)) holding)
        by false e = absurd (let few = (stands_so kind o s es i items front (in_flat r i es there) waits).waiting e in let m = short in let p = place in let k = b.count in let f = b.few in omega (arith, few, k, m, p, f))

-- ---- those that it passes by change nothing

pub line_from : (test : Delivery → Bool) (s : State) (es : List Entry) (old : SeenFound) (at : Option ℕ) (n : ℕ) → PassesBy test s es at n → IsOnLine test (λ (passed : List Item). n ≡ length passed) s es old old at
line_from test s es old at n p = record {
  along = record { front = parts.front; rest = parts.rest; parts = parts.is; here = p.here ∙ ap (λ qs. first_of qs None) (sym parts.behind) };
  so = p.count ∙ ap length (sym parts.before) ∙ length-map parts.front (λ (x : Entry). x.0) ∙ sym (length-map parts.front (λ (x : Entry). x.1));
  finds = λ done new f. (record {
    lost = found_as (Delivers done) (AmongTest done (slots_of parts.front)) (loses_number (holds s)) es old.lost (λ q i t u m. inl m) (λ q i t u m. back done q i (λ c. loses_none i.ready (holds s i) (p.agrees q i t c) u) m) f.lost;
    gained = found_as (Delivers done) (AmongTest done (slots_of parts.front)) (needs_number (holds s)) es old.gained (λ q i t u m. inl m) (λ q i t u m. back done q i (λ c. gains_none i.ready (holds s i) (p.agrees q i t c) u) m) f.gained;
  });
  room = refl;
}
  where
    parts : IsParted (some test es) p.passed p.left
    parts = parted (some test es) p.passed p.left p.is

    back : (done : Delivery → Bool) (q : ℕ) (i : Item) → (Contains p.passed q → ⊥) → AmongTest done (slots_of parts.front) (q, i) → Delivers done (q, i)
    back done q i other (inl m) = m
    back done q i other (inr c) = absurd (other (subst (λ qs. Contains qs q) parts.before c))
