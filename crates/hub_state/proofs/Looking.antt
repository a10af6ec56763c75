-- What a look at the items of some classes finds.
use Rattle.std.proofs.Common.{◌≡◌, refl, sym, ap, ◌∙◌, subst, ℕ, ◌+◌, ◌<◌, Bool, true, false, cond, not, List, [], ◌∷◌, ◌++◌, length, take, drop, get_or, Option, Some, None, ◌⊎◌, inl, inr, arith}
use Rattle.std.proofs.lemmas.Bool.{and_parts, or_cases, or_left, or_right, true≢false}
use Rattle.std.proofs.lemmas.List.{drop_more, take-append-drop}
use Rattle.std.proofs.lemmas.List.Elements.{Contains-append_left, Contains-push, Contains-push_cases}
use Rattle.std.specs.List.{Contains}
use Rattle.std.specs.Prelude.{IsTrue, is_none, is_some}
use Rattle.item_places.specs.Items.{Differ, Lacks}
use Rattle.item_places.proofs.ItemLemmas.{absent_of_lacks, differ_from_front}
use Rattle.slot_chains.specs.Chained.{first_of}
use Rattle.machine.specs.declared.items.Delivery.{Delivery}
use Rattle.machine.specs.declared.items.Item.{Item}
use Rattle.machine.specs.Holds.{holds}
use Rattle.machine.specs.State.{State}
use Rattle.machine_settling.specs.Classes.{Class, class_of}
use Rattle.machine_settling.specs.Numbers.{loses_number, needs_number}
use Rattle.machine_settling.specs.Steps.{either}
use Rattle.machine_settling.proofs.Parts.{at_in}
use Rattle.held_items.specs.Entries.{Entry, flat, index, item_in, slots_of}
use Rattle.held_items.proofs.Dropping.{index_differ, index_passes}
use Rattle.held_items.proofs.IndexLemmas.{index_contains, some}
use Rattle.held_items.proofs.IndexWalks.{IsAlong, IsStanding, along_all, along_at, along_next, along_none}
use Rattle.held_items.proofs.Ordering.{same_item}
use Rattle.hub_state.specs.Found.{Finds, HasFound, IsOf, LooksAt, SeenFound, is_always, noted, noted_always, waits_for_nothing}
use Rattle.hub_state.specs.Touched.{IsMade, IsPending}
use Rattle.hub_state.proofs.Classes.{is_free}
use Rattle.hub_state.proofs.Finding.{Or, entry_there, finds_as, found_as, noted_more}
use Rattle.hub_state.proofs.UpToDate.{holds_always}
use Rattle.hub_state.proofs.Walks.{flat_there, length_flat, slots_there}

-- none of these classes was looked at before
abbrev pub AreNew : (Class → Bool) → (Class → Bool) → Type 0
AreNew classes done = (c : Class) → IsTrue (classes c) → done c ≡ false

-- the item in this slot is this one
same_there : (es : List Entry) (q r : ℕ) (i j : Item) → item_in q es ≡ Some i → item_in r es ≡ Some j → r ≡ q → j ≡ i
same_there es q r i j h k e = same_item q es j i (ap (λ p. item_in p es) (sym e) ∙ k) h

-- ---- the items of a class, one after another

-- the items that deliver what is of these classes
abbrev pub delivers : (Class → Bool) → Delivery → Bool
delivers classes d = classes (class_of d)

-- looked at before, or among these slots
abbrev pub Among : (Class → Bool) → List ℕ → Entry → Type 0
Among done front e = IsOf done e ⊎ Contains front e.0

-- the items before the one that the walk stands at were looked at, and something is so of them
pub record IsLooking (classes : Class → Bool) (IsSo : List Item → Type 0) (s : State) (es : List Entry) (old now : SeenFound) (at : Option ℕ) : Type 0 where
  pub along : IsAlong (delivers classes) es at
  pub so : IsSo (flat along.front)
  pub finds : (done : Class → Bool) → AreNew classes done → HasFound done s es old → Finds (Among done (slots_of along.front)) s es now
  pub room : now.room ≡ old.room

nothing_in : (q : ℕ) → Contains [] q → ⊥
nothing_in q c = let below = c.1 in omega (arith, below)

pub looking_none : (classes : Class → Bool) (IsSo : List Item → Type 0) (s : State) (es : List Entry) (old : SeenFound) (at : Option ℕ) → at ≡ first_of (index (delivers classes) es) None → IsSo [] →
    IsLooking classes IsSo s es old old at
looking_none classes IsSo s es old at h so = record {
  along = along_none (delivers classes) es at h;
  so = so;
  finds = λ done new f. finds_as (IsOf done) (Among done []) s es old (λ q i t l. inl l) (λ q i t l. back done (q, i) l) f;
  room = refl;
}
  where
    back : (done : Class → Bool) (e : Entry) → Among done [] e → IsOf done e
    back done e (inl l) = l
    back done e (inr c) = absurd (nothing_in e.0 c)

pub looking_all : (classes : Class → Bool) (IsSo : List Item → Type 0) (s : State) (es : List Entry) (old now : SeenFound) (at : Option ℕ) → Differ (slots_of es) → IsLooking classes IsSo s es old now at → at ≡ None →
    LooksAt classes s es old now
looking_all classes IsSo s es old now at differ l e = record {
  finds = λ done new f. finds_as (Among done (slots_of l.along.front)) (IsOf (either done classes)) s es now (λ q i t m. to done q i t m) (λ q i t m. from done q i t m) (l.finds done new f);
  room = l.room;
}
  where
    all : index (delivers classes) es ≡ slots_of l.along.front
    all = ap slots_of (along_all (delivers classes) es at l.along e)

    to : (done : Class → Bool) (q : ℕ) (i : Item) → item_in q es ≡ Some i → Among done (slots_of l.along.front) (q, i) → either done classes (class_of i.delivery) ≡ true
    to done q i t (inl m) = or_left (done (class_of i.delivery)) (classes (class_of i.delivery)) m
    to done q i t (inr c) = or_right (done (class_of i.delivery)) (classes (class_of i.delivery)) (index_passes (delivers classes) es q i differ t (subst (λ qs. Contains qs q) (sym all) c))

    from : (done : Class → Bool) (q : ℕ) (i : Item) → item_in q es ≡ Some i → either done classes (class_of i.delivery) ≡ true → Among done (slots_of l.along.front) (q, i)
    from done q i t m = by (or_cases (done (class_of i.delivery)) (classes (class_of i.delivery)) m)
      where
        by : (done (class_of i.delivery) ≡ true) ⊎ (classes (class_of i.delivery) ≡ true) → Among done (slots_of l.along.front) (q, i)
        by (inl a) = inl a
        by (inr a) = inr (subst (λ qs. Contains qs q) all (index_contains (delivers classes) q es i t a))

-- those that were passed, and the one after them, are not more than there are
passed_few : (test : Delivery → Bool) (es front others : List Entry) (x : Entry) → some test es ≡ front ++ x ∷ others → length (flat front) < length es
passed_few test es front others x e =
    let a = ap length e in let b = length_both front (x ∷ others) in let c = length_flat front in let d = not_more es in
    grind (arith, a, b, c, d)
  where
    length_both : (xs ys : List Entry) → length (xs ++ ys) ≡ length xs + length ys
    length_both [] ys = omega arith
    length_both (y ∷ xs) ys = let r = length_both xs ys in omega (arith, r)

    not_more : (xs : List Entry) → length xs < length (some test xs) → ⊥
    not_more [] u = omega (arith, u)
    not_more (y ∷ xs) u = step (test y.1.delivery) u (not_more xs)
      where
        step : (b : Bool) → length (y ∷ xs) < length (cond b (y ∷ some test xs) (some test xs)) → (length xs < length (some test xs) → ⊥) → ⊥
        step true v go = go (omega (arith, v))
        step false v go = go (omega (arith, v))

-- the item that the walk stands at is noted, and the walk goes on
pub looking_on : (classes : Class → Bool) (IsSo IsThen : List Item → Type 0) (s : State) (es : List Entry) (old now new : SeenFound) (at next : Option ℕ) (q : ℕ) (i : Item) (h : Bool) → Differ (slots_of es) →
    (l : IsLooking classes IsSo s es old now at) → at ≡ Some q → item_in q es ≡ Some i →
    ((st : IsStanding (delivers classes) es at q l.along) → st.item ≡ i → classes (class_of i.delivery) ≡ true → h ≡ holds s i) →
    ((passed : List Item) → length passed < length es → classes (class_of i.delivery) ≡ true → IsSo passed → IsThen (passed ++ i ∷ [])) →
    new ≡ noted q i h now → ((xs ys : List ℕ) → index (delivers classes) es ≡ xs ++ q ∷ ys → next ≡ first_of ys None) → IsLooking classes IsThen s es old new next
looking_on classes IsSo IsThen s es old now new at next q i h differ l e got tells passes notes goes =
    let st = along_at (delivers classes) es at q l.along differ e in
    let same : st.item ≡ i = same_item q es st.item i st.there got in
    let passes_it : classes (class_of i.delivery) ≡ true = ap (λ (x : Item). classes (class_of x.delivery)) (sym same) ∙ st.among.passes in
    let is : h ≡ holds s i = tells st same passes_it in
    let front = l.along.front in
    let slots : index (delivers classes) es ≡ slots_of front ++ q ∷ slots_of st.others = ap slots_of st.parts ∙ slots_there front q st.item st.others in
    let lacks : Lacks q (slots_of front) = differ_from_front (slots_of front) (slots_of st.others) q (subst Differ slots (index_differ (delivers classes) es differ)) in
    record {
      along = along_next (delivers classes) es at next q l.along st goes;
      so = subst IsThen (sym (flat_there front q st.item [])) (subst (λ x. IsThen (flat front ++ x ∷ [])) (sym same) (passes (flat front) (passed_few (delivers classes) es front st.others (q, st.item) st.parts) passes_it l.so));
      finds = λ done new_ones found.
          let more = noted_more (Among done (slots_of front)) s es now q i got (fresh done (new_ones (class_of i.delivery) passes_it) lacks) (l.finds done new_ones found) in
          subst (λ qs. Finds (Among done qs) s es new) (sym (slots_there front q st.item []))
          (subst (λ x. Finds (Among done (slots_of front ++ q ∷ [])) s es x) (ap (λ b. noted q i b now) (sym is) ∙ sym notes)
          (finds_as (Or (Among done (slots_of front)) q) (Among done (slots_of front ++ q ∷ [])) s es (noted q i (holds s i) now) (λ r j t m. forth done (r, j) m) (λ r j t m. back done (r, j) m) more));
      room = ap (λ (f : SeenFound). f.room) notes ∙ l.room;
    }
  where
    fresh : (done : Class → Bool) → done (class_of i.delivery) ≡ false → Lacks q (slots_of l.along.front) → Among done (slots_of l.along.front) (q, i) → ⊥
    fresh done new_one lacks (inl m) = true≢false (sym m ∙ new_one)
    fresh done new_one lacks (inr c) = absent_of_lacks q (slots_of l.along.front) lacks c

    forth : (done : Class → Bool) (x : Entry) → Or (Among done (slots_of l.along.front)) q x → Among done (slots_of l.along.front ++ q ∷ []) x
    forth done x (inl (inl m)) = inl m
    forth done x (inl (inr c)) = inr (Contains-append_left (slots_of l.along.front) (q ∷ []) x.0 c)
    forth done x (inr u) = inr (subst (λ r. Contains (slots_of l.along.front ++ q ∷ []) r) (sym u) (Contains-push (slots_of l.along.front) q))

    back : (done : Class → Bool) (x : Entry) → Among done (slots_of l.along.front ++ q ∷ []) x → Or (Among done (slots_of l.along.front)) q x
    back done x (inl m) = inl (inl m)
    back done x (inr c) = by (Contains-push_cases (slots_of l.along.front) q x.0 c)
      where
        by : Contains (slots_of l.along.front) x.0 ⊎ (q ≡ x.0) → Or (Among done (slots_of l.along.front)) q x
        by (inl d) = inl (inr d)
        by (inr u) = inr (sym u)

-- ---- the items that were made

-- looked at before, or among these slots and waiting for nothing
abbrev pub Made : (Class → Bool) → List ℕ → Entry → Type 0
Made done front e = IsOf done e ⊎ (Contains front e.0 × IsOf is_always e)

-- these of the slots were looked at
pub record LooksMade (front : List ℕ) (es : List Entry) (old now : SeenFound) : Type 0 where
  pub finds : (s : State) (done : Class → Bool) → AreNew is_always done → HasFound done s es old → Finds (Made done front) s es now
  pub room : now.room ≡ old.room

pub made_none : (es : List Entry) (old : SeenFound) → LooksMade [] es old old
made_none es old = record { finds = λ s done new f. finds_as (IsOf done) (Made done []) s es old (λ q i t l. inl l) (λ q i t l. back done (q, i) l) f; room = refl }
  where
    back : (done : Class → Bool) (e : Entry) → Made done [] e → IsOf done e
    back done e (inl l) = l
    back done e (inr c) = absurd (nothing_in e.0 c.0)

pub made_more : (front : List ℕ) (q : ℕ) (es : List Entry) (old now : SeenFound) → Lacks q front → LooksMade front es old now → LooksMade (front ++ q ∷ []) es old (noted_always q (item_in q es) now)
made_more front q es old now lacks l = record { finds = λ s done new f. by s done new (item_in q es) refl (l.finds s done new f); room = still (item_in q es) ∙ l.room }
  where
    still : (o : Option Item) → (noted_always q o now).room ≡ now.room
    still None = refl
    still (Some i) = of_test (waits_for_nothing i.delivery)
      where
        of_test : (b : Bool) → (cond b (noted q i true now) now).room ≡ now.room
        of_test true = refl
        of_test false = refl

    longer : (done : Class → Bool) (e : Entry) → Made done front e → Made done (front ++ q ∷ []) e
    longer done e (inl m) = inl m
    longer done e (inr c) = inr (Contains-append_left front (q ∷ []) e.0 c.0, c.1)

    -- where the slot has no such item
    passed_by : (s : State) (done : Class → Bool) → ((r : ℕ) (j : Item) → item_in r es ≡ Some j → r ≡ q → IsOf is_always (r, j) → ⊥) → Finds (Made done front) s es now → Finds (Made done (front ++ q ∷ [])) s es now
    passed_by s done none g = finds_as (Made done front) (Made done (front ++ q ∷ [])) s es now (λ r j t m. longer done (r, j) m) (λ r j t m. back r j t m) g
      where
        back : (r : ℕ) (j : Item) → item_in r es ≡ Some j → Made done (front ++ q ∷ []) (r, j) → Made done front (r, j)
        back r j t (inl m) = inl m
        back r j t (inr c) = split (Contains-push_cases front q r c.0)
          where
            split : Contains front r ⊎ (q ≡ r) → Made done front (r, j)
            split (inl d) = inr (d, c.1)
            split (inr u) = absurd (none r j t (sym u) c.1)

    of_item : (s : State) (done : Class → Bool) → AreNew is_always done → (i : Item) → item_in q es ≡ Some i → (b : Bool) → waits_for_nothing i.delivery ≡ b → Finds (Made done front) s es now →
        Finds (Made done (front ++ q ∷ [])) s es (cond b (noted q i true now) now)
    of_item s done new i t false a g = passed_by s done (λ r j u e k. true≢false (sym k ∙ ap (λ (x : Item). is_always (class_of x.delivery)) (same_there es q r i j t u e) ∙ a)) g
    of_item s done new i t true a g =
        let h : holds s i ≡ true = holds_always s i.since i.delivery (is_free (class_of i.delivery) a) in
        subst (λ b. Finds (Made done (front ++ q ∷ [])) s es (noted q i b now)) h
        (finds_as (Or (Made done front) q) (Made done (front ++ q ∷ [])) s es (noted q i (holds s i) now) (λ r j u m. forth r j u m) (λ r j u m. back r j m)
        (noted_more (Made done front) s es now q i t absent g))
      where
        absent : Made done front (q, i) → ⊥
        absent (inl m) = true≢false (sym m ∙ new (class_of i.delivery) a)
        absent (inr c) = absent_of_lacks q front lacks c.0

        forth : (r : ℕ) (j : Item) → item_in r es ≡ Some j → Or (Made done front) q (r, j) → Made done (front ++ q ∷ []) (r, j)
        forth r j u (inl m) = longer done (r, j) m
        forth r j u (inr e) = inr (subst (λ p. Contains (front ++ q ∷ []) p) (sym e) (Contains-push front q), ap (λ (x : Item). is_always (class_of x.delivery)) (same_there es q r i j t u e) ∙ a)

        back : (r : ℕ) (j : Item) → Made done (front ++ q ∷ []) (r, j) → Or (Made done front) q (r, j)
        back r j (inl m) = inl (inl m)
        back r j (inr c) = split (Contains-push_cases front q r c.0)
          where
            split : Contains front r ⊎ (q ≡ r) → Or (Made done front) q (r, j)
            split (inl d) = inl (inr (d, c.1))
            split (inr e) = inr (sym e)

    by : (s : State) (done : Class → Bool) → AreNew is_always done → (o : Option Item) → item_in q es ≡ o → Finds (Made done front) s es now → Finds (Made done (front ++ q ∷ [])) s es (noted_always q o now)
    by s done new None t g = passed_by s done (λ r j u e k. absurd (cc (sym (ap (λ p. item_in p es) e ∙ t) ∙ u))) g
    by s done new (Some i) t g = of_item s done new i t (waits_for_nothing i.delivery) refl g

pub none_is_none : (r : Option ℕ) → is_none r ≡ true → r ≡ None
none_is_none None e = refl
none_is_none (Some n) e = absurd (cc e)

pub made_all : (made : List ℕ) (es : List Entry) (old now : SeenFound) → IsPending made es → LooksMade made es old now → (s : State) → LooksAt is_always s es old now
made_all made es old now pending l s = record {
  finds = λ done new f. (let g = l.finds s done new f in record {
    lost = found_as (Made done made) (IsOf (either done is_always)) (loses_number (holds s)) es now.lost (λ q i t u m. to done q i m) (λ q i t u m. from_lost done q i u m) g.lost;
    gained = found_as (Made done made) (IsOf (either done is_always)) (needs_number (holds s)) es now.gained (λ q i t u m. to done q i m) (λ q i t u m. from_gained done q i t u m) g.gained;
  });
  room = l.room;
}
  where
    to : (done : Class → Bool) (q : ℕ) (i : Item) → Made done made (q, i) → either done is_always (class_of i.delivery) ≡ true
    to done q i (inl m) = or_left (done (class_of i.delivery)) (is_always (class_of i.delivery)) m
    to done q i (inr c) = or_right (done (class_of i.delivery)) (is_always (class_of i.delivery)) c.1

    from_lost : (done : Class → Bool) (q : ℕ) (i : Item) → loses_number (holds s) i ≡ true → either done is_always (class_of i.delivery) ≡ true → Made done made (q, i)
    from_lost done q i u m = split (or_cases (done (class_of i.delivery)) (is_always (class_of i.delivery)) m)
      where
        split : (done (class_of i.delivery) ≡ true) ⊎ (is_always (class_of i.delivery) ≡ true) → Made done made (q, i)
        split (inl a) = inl a
        split (inr a) = absurd (true≢false (sym (and_parts (not (holds s i)) (is_some i.ready) u).0 ∙ ap not (holds_always s i.since i.delivery (is_free (class_of i.delivery) a))))

    from_gained : (done : Class → Bool) (q : ℕ) (i : Item) → item_in q es ≡ Some i → needs_number (holds s) i ≡ true → either done is_always (class_of i.delivery) ≡ true → Made done made (q, i)
    from_gained done q i t u m = split (or_cases (done (class_of i.delivery)) (is_always (class_of i.delivery)) m)
      where
        split : (done (class_of i.delivery) ≡ true) ⊎ (is_always (class_of i.delivery) ≡ true) → Made done made (q, i)
        split (inl a) = inl a
        split (inr a) = inr (at_in (IsMade made) es (q, i) pending (entry_there q es i t) (is_free (class_of i.delivery) a) (none_is_none i.ready (and_parts (holds s i) (is_none i.ready) u).1), a)

-- no slot before this place is the one at it
pub not_before : (qs : List ℕ) (k d : ℕ) → k < length qs → Differ qs → Lacks (get_or qs k d) (take k qs)
not_before qs k d l differ =
    differ_from_front (take k qs) (drop (k + 1) qs) (get_or qs k d)
    (subst Differ (sym (take-append-drop k qs) ∙ ap (λ xs. take k qs ++ xs) (drop_more qs k d l)) differ)
