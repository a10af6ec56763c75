-- What a look along the items that pass a test finds, and where it may stop.
use Rattle.std.proofs.Common.{◌≡◌, refl, sym, ap, ◌∙◌, subst, ℕ, ◌<◌, Bool, true, false, not, List, [], ◌∷◌, ◌++◌, length, Option, Some, None, ◌⊎◌, inl, inr, arith}
use Rattle.std.proofs.lemmas.Bool.{and_parts, eqb-true, or_cases, or_left, or_parts, or_right, true≢false}
use Rattle.std.proofs.lemmas.List.Elements.{Contains-append_left, Contains-push, Contains-push_cases}
use Rattle.std.specs.List.{Contains}
use Rattle.std.specs.Prelude.{IsTrue, ◌==◌, ◌||◌, is_none, is_some}
use Rattle.item_places.specs.Items.{Differ, Lacks}
use Rattle.item_places.proofs.ItemLemmas.{absent_of_lacks, differ_from_front}
use Rattle.slot_chains.specs.Chained.{first_of}
use Rattle.machine.specs.declared.items.Delivery.{Delivery}
use Rattle.machine.specs.declared.items.Item.{Item}
use Rattle.machine.specs.declared.items.Waiting.{Waiting}
use Rattle.machine.specs.Holds.{earlier, holds, is_acquire, is_lock, is_place, is_put, is_slot, is_take, is_take_offer}
use Rattle.machine.specs.State.{State}
use Rattle.machine_settling.specs.Fronts.{NumbersStandInFront, in_one_line, is_open, line_with}
use Rattle.machine_settling.specs.Numbers.{loses_number, needs_number}
use Rattle.machine_settling.proofs.Fronts.{walk_stops}
use Rattle.machine_settling.proofs.Members.{In, contains_of_in, in_of_Contains, since_above}
use Rattle.hub_items.specs.declared.waits.WaitKind.{WaitKind}
use Rattle.hub_items.specs.Lines.{IsAhead, IsLengthOf, line_ahead}
use Rattle.hub_items.specs.Sound.{AscendTo}
use Rattle.hub_items.specs.WaitKinds.{test_of}
use Rattle.held_items.specs.Entries.{Entry, flat, index, item_in, slots_of}
use Rattle.held_items.specs.Waits.{waits_in_line}
use Rattle.held_items.proofs.Dropping.{index_differ, index_passes}
use Rattle.held_items.proofs.IndexLemmas.{index_contains, some}
use Rattle.held_items.proofs.IndexWalks.{IsAlong, IsStanding, along_all, along_at, along_next, along_none, some_has}
use Rattle.held_items.proofs.LineWalks.{rest_ascends, standing_few}
use Rattle.held_items.proofs.Ordering.{same_item}
use Rattle.hub_state.specs.Found.{Delivers, Finds, LooksAlong, SeenFound, noted}
use Rattle.hub_state.specs.Waiters.{IsBefore}
use Rattle.hub_state.proofs.Finding.{Or, entry_there, finds_as, found_as, in_flat, in_map, noted_more}
use Rattle.hub_state.proofs.Walks.{flat_there, slots_there}

-- none of those that pass the test was looked at before
abbrev pub AreUnseen : (Delivery → Bool) → (Delivery → Bool) → Type 0
AreUnseen test done = (d : Delivery) → IsTrue (test d) → done d ≡ false

-- ---- the items that pass a test, one after another

-- looked at before, or among these slots
abbrev pub AmongTest : (Delivery → Bool) → List ℕ → Entry → Type 0
AmongTest done front e = Delivers done e ⊎ Contains front e.0

-- the items before the one that the walk stands at were looked at, and something is so of them
pub record IsOnLine (test : Delivery → Bool) (IsSo : List Item → Type 0) (s : State) (es : List Entry) (old now : SeenFound) (at : Option ℕ) : Type 0 where
  pub along : IsAlong test es at
  pub so : IsSo (flat along.front)
  pub finds : (done : Delivery → Bool) → AreUnseen test done → Finds (Delivers done) s es old → Finds (AmongTest done (slots_of along.front)) s es now
  pub room : now.room ≡ old.room

nothing_in : (q : ℕ) → Contains [] q → ⊥
nothing_in q c = let below = c.1 in omega (arith, below)

pub line_none : (test : Delivery → Bool) (IsSo : List Item → Type 0) (s : State) (es : List Entry) (old : SeenFound) (at : Option ℕ) → at ≡ first_of (index test es) None → IsSo [] →
    IsOnLine test IsSo s es old old at
line_none test IsSo s es old at h so = record {
  along = along_none test es at h;
  so = so;
  finds = λ done new f. finds_as (Delivers done) (AmongTest done []) s es old (λ q i t l. inl l) (λ q i t l. back done (q, i) l) f;
  room = refl;
}
  where
    back : (done : Delivery → Bool) (e : Entry) → AmongTest done [] e → Delivers done e
    back done e (inl l) = l
    back done e (inr c) = absurd (nothing_in e.0 c)

pub line_all : (test : Delivery → Bool) (IsSo : List Item → Type 0) (s : State) (es : List Entry) (old now : SeenFound) (at : Option ℕ) → Differ (slots_of es) → IsOnLine test IsSo s es old now at → at ≡ None →
    LooksAlong test s es old now
line_all test IsSo s es old now at differ l e = record {
  finds = λ done new f. finds_as (AmongTest done (slots_of l.along.front)) (Delivers (λ d. done d || test d)) s es now (λ q i t m. to done q i t m) (λ q i t m. from done q i t m) (l.finds done new f);
  room = l.room;
}
  where
    all : index test es ≡ slots_of l.along.front
    all = ap slots_of (along_all test es at l.along e)

    to : (done : Delivery → Bool) (q : ℕ) (i : Item) → item_in q es ≡ Some i → AmongTest done (slots_of l.along.front) (q, i) → (done i.delivery || test i.delivery) ≡ true
    to done q i t (inl m) = or_left (done i.delivery) (test i.delivery) m
    to done q i t (inr c) = or_right (done i.delivery) (test i.delivery) (index_passes test es q i differ t (subst (λ qs. Contains qs q) (sym all) c))

    from : (done : Delivery → Bool) (q : ℕ) (i : Item) → item_in q es ≡ Some i → (done i.delivery || test i.delivery) ≡ true → AmongTest done (slots_of l.along.front) (q, i)
    from done q i t m = by (or_cases (done i.delivery) (test i.delivery) m)
      where
        by : (done i.delivery ≡ true) ⊎ (test i.delivery ≡ true) → AmongTest done (slots_of l.along.front) (q, i)
        by (inl a) = inl a
        by (inr a) = inr (subst (λ qs. Contains qs q) all (index_contains test q es i t a))

-- the item that the walk stands at is noted, and the walk goes on
pub line_on : (test : Delivery → Bool) (IsSo IsThen : List Item → Type 0) (s : State) (es : List Entry) (old now new : SeenFound) (at next : Option ℕ) (q : ℕ) (i : Item) (h : Bool) → Differ (slots_of es) →
    (l : IsOnLine test IsSo s es old now at) → at ≡ Some q → item_in q es ≡ Some i →
    ((st : IsStanding test es at q l.along) → st.item ≡ i → test i.delivery ≡ true → h ≡ holds s i) →
    ((passed : List Item) → length passed < length es → test i.delivery ≡ true → IsSo passed → IsThen (passed ++ i ∷ [])) →
    new ≡ noted q i h now → ((xs ys : List ℕ) → index test es ≡ xs ++ q ∷ ys → next ≡ first_of ys None) → IsOnLine test IsThen s es old new next
line_on test IsSo IsThen s es old now new at next q i h differ l e got tells passes notes goes =
    let st = along_at test es at q l.along differ e in
    let same : st.item ≡ i = same_item q es st.item i st.there got in
    let passes_it : test i.delivery ≡ true = ap (λ (x : Item). test x.delivery) (sym same) ∙ st.among.passes in
    let is : h ≡ holds s i = tells st same passes_it in
    let front = l.along.front in
    let slots : index test es ≡ slots_of front ++ q ∷ slots_of st.others = ap slots_of st.parts ∙ slots_there front q st.item st.others in
    let lacks : Lacks q (slots_of front) = differ_from_front (slots_of front) (slots_of st.others) q (subst Differ slots (index_differ test es differ)) in
    record {
      along = along_next test es at next q l.along st goes;
      so = subst IsThen (sym (flat_there front q st.item [])) (subst (λ x. IsThen (flat front ++ x ∷ [])) (sym same) (passes (flat front) (standing_few test es at q l.along st) passes_it l.so));
      finds = λ done new_ones found.
          let more = noted_more (AmongTest done (slots_of front)) s es now q i got (fresh done (new_ones i.delivery passes_it) lacks) (l.finds done new_ones found) in
          subst (λ qs. Finds (AmongTest done qs) s es new) (sym (slots_there front q st.item []))
          (subst (λ x. Finds (AmongTest done (slots_of front ++ q ∷ [])) s es x) (ap (λ b. noted q i b now) (sym is) ∙ sym notes)
          (finds_as (Or (AmongTest done (slots_of front)) q) (AmongTest done (slots_of front ++ q ∷ [])) s es (noted q i (holds s i) now) (λ r j t m. forth done (r, j) m) (λ r j t m. back done (r, j) m) more));
      room = ap (λ (f : SeenFound). f.room) notes ∙ l.room;
    }
  where
    fresh : (done : Delivery → Bool) → done i.delivery ≡ false → Lacks q (slots_of l.along.front) → AmongTest done (slots_of l.along.front) (q, i) → ⊥
    fresh done new_one lacks (inl m) = true≢false (sym m ∙ new_one)
    fresh done new_one lacks (inr c) = absent_of_lacks q (slots_of l.along.front) lacks c

    forth : (done : Delivery → Bool) (x : Entry) → Or (AmongTest done (slots_of l.along.front)) q x → AmongTest done (slots_of l.along.front ++ q ∷ []) x
    forth done x (inl (inl m)) = inl m
    forth done x (inl (inr c)) = inr (Contains-append_left (slots_of l.along.front) (q ∷ []) x.0 c)
    forth done x (inr u) = inr (subst (λ r. Contains (slots_of l.along.front ++ q ∷ []) r) (sym u) (Contains-push (slots_of l.along.front) q))

    back : (done : Delivery → Bool) (x : Entry) → AmongTest done (slots_of l.along.front ++ q ∷ []) x → Or (AmongTest done (slots_of l.along.front)) q x
    back done x (inl m) = inl (inl m)
    back done x (inr c) = by (Contains-push_cases (slots_of l.along.front) q x.0 c)
      where
        by : Contains (slots_of l.along.front) x.0 ⊎ (q ≡ x.0) → Or (AmongTest done (slots_of l.along.front)) q x
        by (inl d) = inl (inr d)
        by (inr u) = inr (sym u)

-- ---- a walk over a line may stop

same_object : (test : ℕ → Waiting → Bool) (o p : ℕ) (w : Waiting) → (o == p) ≡ true → test o w ≡ true → test p w ≡ true
same_object test o p w e f = subst (λ k. test k w ≡ true) (eqb-true o p e) f

-- two waits of this kind at this object are in one line
in_line_with : (kind : WaitKind) (o : ℕ) (v w : Waiting) → test_of kind o v ≡ true → test_of kind o w ≡ true → line_with v w ≡ true
in_line_with WaitKind.Acquire o (Waiting.Acquire p) w e f = same_object is_acquire o p w e f
in_line_with WaitKind.Lock o (Waiting.Lock p) w e f = same_object is_lock o p w e f
in_line_with WaitKind.Put o (Waiting.Put p x) w e f = same_object is_put o p w e f
in_line_with WaitKind.Take o (Waiting.Take p) w e f = same_object is_take o p w e f
in_line_with WaitKind.Place o (Waiting.Place p g xs) w e f = same_object is_place o p w e f
in_line_with WaitKind.Place o (Waiting.MapPlace p g xs made) w e f = same_object is_place o p w e f
in_line_with WaitKind.Slot o (Waiting.Slot p job takes) w e f = same_object is_slot o p w e f
in_line_with WaitKind.TakeOffer o (Waiting.TakeOffer p) w e f = same_object is_take_offer o p w e f
in_line_with kind o v w e f = absurd (true≢false (sym e))

pub one_line : (kind : WaitKind) (o : ℕ) (d e : Delivery) → waits_in_line kind o d ≡ true → waits_in_line kind o e ≡ true → in_one_line d e ≡ true
one_line kind o (Delivery.Wake g v) (Delivery.Wake h w) s t = in_line_with kind o v w s t
one_line kind o (Delivery.Wake g v) e s t = absurd (true≢false (sym t))
one_line kind o d e s t = absurd (true≢false (sym s))

-- an item of the line that the walk has not passed
left_in : (q r : ℕ) (i j : Item) (front others : List Entry) → In (r, j) (front ++ (q, i) ∷ others) → Contains (slots_of front) r ⊎ In j (i ∷ flat others)
left_in q r i j [] others (inl e) = inr (inl (ap (λ (x : Entry). x.1) e))
left_in q r i j [] others (inr h) = inr (inr (in_map (λ (x : Entry). x.1) others (r, j) h))
left_in q r i j (x ∷ front) others (inl e) = inl (contains_of_in (slots_of (x ∷ front)) r (inl (ap (λ (y : Entry). y.0) e)))
left_in q r i j (x ∷ front) others (inr h) = by (left_in q r i j front others h)
  where
    by : Contains (slots_of front) r ⊎ In j (i ∷ flat others) → Contains (slots_of (x ∷ front)) r ⊎ In j (i ∷ flat others)
    by (inl c) = inl (contains_of_in (slots_of (x ∷ front)) r (inr (in_of_Contains (slots_of front) r c)))
    by (inr k) = inr k

closed_loses : (s : State) (j : Item) → is_open s j ≡ false → loses_number (holds s) j ≡ true → ⊥
closed_loses s j e t = true≢false (sym (and_parts (not (holds s j)) (is_some j.ready) t).1 ∙ (or_parts (holds s j) (is_some j.ready) e).1)

closed_needs : (s : State) (j : Item) → is_open s j ≡ false → needs_number (holds s) j ≡ true → ⊥
closed_needs s j e t = true≢false (sym (and_parts (holds s j) (is_none j.ready) t).0 ∙ (or_parts (holds s j) (is_some j.ready) e).0)

-- where the item that the walk stands at has no number and doesn't hold, all of the line were looked at
pub line_stopped : (kind : WaitKind) (o next : ℕ) (IsSo : List Item → Type 0) (s : State) (es : List Entry) (old now : SeenFound) (at : Option ℕ) (q : ℕ) (i : Item) → Differ (slots_of es) → AscendTo 0 next (flat es) →
    s.items ≡ flat es → NumbersStandInFront s → IsOnLine (waits_in_line kind o) IsSo s es old now at → at ≡ Some q → item_in q es ≡ Some i → holds s i ≡ false → is_some i.ready ≡ false →
    LooksAlong (waits_in_line kind o) s es old now
line_stopped kind o next IsSo s es old now at q i differ ascends items fronts l e got fails none = record {
  finds = λ done new f. (let g = l.finds done new f in record {
    lost = found_as (AmongTest done front) (Delivers (λ d. done d || test d)) (loses_number (holds s)) es now.lost (λ r j t u m. to done r j t m) (λ r j t u m. from done r j t (λ k. closed_loses s j k u) m) g.lost;
    gained = found_as (AmongTest done front) (Delivers (λ d. done d || test d)) (needs_number (holds s)) es now.gained (λ r j t u m. to done r j t m) (λ r j t u m. from done r j t (λ k. closed_needs s j k u) m) g.gained;
  });
  room = l.room;
}
  where
    test : Delivery → Bool
    test = waits_in_line kind o

    front : List ℕ
    front = slots_of l.along.front

    st : IsStanding test es at q l.along
    st = along_at test es at q l.along differ e

    same : st.item ≡ i
    same = same_item q es st.item i st.there got

    passes : test i.delivery ≡ true
    passes = ap (λ (x : Item). test x.delivery) (sym same) ∙ st.among.passes

    closed : is_open s i ≡ false
    closed = ap (λ b. b || is_some i.ready) fails ∙ none

    slots : index test es ≡ front ++ q ∷ slots_of st.others
    slots = ap slots_of st.parts ∙ slots_there l.along.front q st.item st.others

    among : (r : ℕ) (j : Item) → item_in r es ≡ Some j → Contains s.items j
    among r j t = subst (λ (is : List Item). Contains is j) (sym items) (contains_of_in (flat es) j (in_flat r j es t))

    to : (done : Delivery → Bool) (r : ℕ) (j : Item) → item_in r es ≡ Some j → AmongTest done front (r, j) → (done j.delivery || test j.delivery) ≡ true
    to done r j t (inl m) = or_left (done j.delivery) (test j.delivery) m
    to done r j t (inr c) = or_right (done j.delivery) (test j.delivery) (index_passes test es r j differ t (subst (λ qs. Contains qs r) (sym slots) (Contains-append_left front (q ∷ slots_of st.others) r c)))

    behind : (r : ℕ) (j : Item) → item_in r es ≡ Some j → test j.delivery ≡ true → In j (st.item ∷ flat st.others) → is_open s j ≡ false
    behind r j t m k =
        walk_stops s i j fronts (among q i got) (among r j t)
        (record {
          line = one_line kind o i.delivery j.delivery passes m;
          older = let above = since_above st.item.since (st.item ∷ flat st.others) j (rest_ascends test next es at q l.along st ascends) k in let u = ap (λ (x : Item). x.since) same in omega (arith, above, u);
        })
        closed

    from : (done : Delivery → Bool) (r : ℕ) (j : Item) → item_in r es ≡ Some j → (is_open s j ≡ false → ⊥) → (done j.delivery || test j.delivery) ≡ true → AmongTest done front (r, j)
    from done r j t opens m = by (or_cases (done j.delivery) (test j.delivery) m)
      where
        of_line : test j.delivery ≡ true → Contains front r ⊎ In j (st.item ∷ flat st.others) → AmongTest done front (r, j)
        of_line u (inl c) = inr c
        of_line u (inr k) = absurd (opens (behind r j t u k))

        by : (done j.delivery ≡ true) ⊎ (test j.delivery ≡ true) → AmongTest done front (r, j)
        by (inl a) = inl a
        by (inr u) =
            of_line u
            (left_in q r st.item j l.along.front st.others
            (subst (λ xs. In (r, j) xs) st.parts (entry_there r (some test es) j (some_has test r es j t u))))

-- ---- who is before an item

line_of_kind : (kind : WaitKind) (o : ℕ) (w : Waiting) → test_of kind o w ≡ true → (p : ℕ) × (o ≡ p) × (line_ahead w ≡ Some (kind, p))
line_of_kind WaitKind.Acquire o (Waiting.Acquire p) e = (p, eqb-true o p e, refl)
line_of_kind WaitKind.Lock o (Waiting.Lock p) e = (p, eqb-true o p e, refl)
line_of_kind WaitKind.Put o (Waiting.Put p x) e = (p, eqb-true o p e, refl)
line_of_kind WaitKind.Take o (Waiting.Take p) e = (p, eqb-true o p e, refl)
line_of_kind WaitKind.Place o (Waiting.Place p g xs) e = (p, eqb-true o p e, refl)
line_of_kind WaitKind.Place o (Waiting.MapPlace p g xs made) e = (p, eqb-true o p e, refl)
line_of_kind WaitKind.Slot o (Waiting.Slot p job takes) e = (p, eqb-true o p e, refl)
line_of_kind WaitKind.TakeOffer o (Waiting.TakeOffer p) e = (p, eqb-true o p e, refl)
line_of_kind kind o w e = absurd (true≢false (sym e))

-- so many of its line are before one that waits there
pub line_before : (kind : WaitKind) (o n : ℕ) (s : State) (i : Item) → waits_in_line kind o i.delivery ≡ true → n ≡ earlier (test_of kind o) i.since s.items → IsBefore n s i.since i.delivery
line_before kind o n s i = by i.delivery
  where
    count : (Waiting → Bool) → ℕ
    count test = earlier test i.since s.items

    of_wait : (w : Waiting) → n ≡ count (test_of kind o) → (p : ℕ) × (o ≡ p) × (line_ahead w ≡ Some (kind, p)) → IsAhead n (length s.objects) count w
    of_wait w e (p, same, l) = subst (λ line. IsLengthOf n (length s.objects) count line) (sym l) (λ within. e ∙ ap (λ k. count (test_of kind k)) same)

    by : (d : Delivery) → waits_in_line kind o d ≡ true → n ≡ count (test_of kind o) → IsBefore n s i.since d
    by (Delivery.Wake g w) t e = of_wait w e (line_of_kind kind o w t)
    by d t e = absurd (true≢false (sym t))

-- so many are before who waits so, by the items
pub wait_before : (s : State) (items : List Item) (n since g : ℕ) (w : Waiting) (d : Delivery) → d ≡ Delivery.Wake g w → s.items ≡ items → IsAhead n (length s.objects) (λ test. earlier test since items) w → IsBefore n s since d
wait_before s items n since g w d e same ahead =
    subst (IsBefore n s since) (sym e) (subst (λ (is : List Item). IsAhead n (length s.objects) (λ test. earlier test since is) w) (sym same) ahead)
