-- A line of which, by counts alone, nothing changes: the last with a number holds, and the first without one doesn't.
use Rattle.std.proofs.Common.{◌≡◌, refl, sym, ap, ◌∙◌, subst, ℕ, zero, suc, ◌+◌, ◌-◌, ◌≤◌, ◌&&◌, Bool, true, false, cond, not, List, [], ◌∷◌, Option, Some, None, ◌⊎◌, inl, inr, nat_lt, arith, slice_get}
use Rattle.std.proofs.lemmas.Bool.{and_from, and_parts, eqb-true, or_cases, or_left, true≢false}
use Rattle.std.proofs.lemmas.Bool.Decides.{nat_tests}
use Rattle.std.proofs.lemmas.List.Sums.{sum_by-cons}
use Rattle.std.specs.Prelude.{◌||◌, count_by, is_none, is_some}
use Rattle.machine.specs.declared.items.Delivery.{Delivery}
use Rattle.machine.specs.declared.items.Item.{Item}
use Rattle.machine.specs.declared.items.Waiting.{Waiting}
use Rattle.machine.specs.declared.state.Object.{Object}
use Rattle.machine.specs.Holds.{earlier, has_item, has_offer, has_place, has_room, has_slot, has_unit, holds, is_acquire, is_free, is_lock, is_place, is_put, is_slot, is_take, is_take_offer, wait_holds, wakes}
use Rattle.machine.specs.State.{State}
use Rattle.machine_settling.specs.Fronts.{NumbersStandInFront}
use Rattle.machine_settling.specs.Numbers.{loses_number, needs_number}
use Rattle.machine_settling.proofs.Fronts.{in_front, line_holds}
use Rattle.machine_settling.proofs.Members.{In}
use Rattle.machine_settling.proofs.Settles.{earlier-cons}
use Rattle.hub_items.specs.declared.waits.WaitKind.{WaitKind}
use Rattle.hub_items.specs.WaitKinds.{test_of}
use Rattle.held_items.specs.Entries.{Entry, flat, item_in}
use Rattle.held_items.specs.Tallied.{numbered_in_line, waiting_in_line}
use Rattle.held_items.specs.Waits.{waits_in_line}
use Rattle.held_items.proofs.Tallying.{length_index}
use Rattle.hub_state.specs.Found.{AgreesAlong, Delivers, LooksAlong, SeenFound}
use Rattle.hub_state.specs.Waiters.{holds_in_line}
use Rattle.hub_state.proofs.Alongs.{one_line}
use Rattle.hub_state.proofs.Finding.{found_as, in_flat}

-- ---- who holds, by how many are before it

-- who waits in a line holds as those of its kind do, by how many are before it
holds_so : (kind : WaitKind) (o since : ℕ) (s : State) (w : Waiting) → test_of kind o w ≡ true → wait_holds s since w ≡ holds_in_line kind (earlier (test_of kind o) since s.items) (slice_get s.objects o)
holds_so WaitKind.Acquire o since s (Waiting.Acquire p) e = ap (λ k. has_unit (earlier (is_acquire k) since s.items) (slice_get s.objects k)) (sym (eqb-true o p e))
holds_so WaitKind.Lock o since s (Waiting.Lock p) e = ap (λ k. is_free (earlier (is_lock k) since s.items) (slice_get s.objects k)) (sym (eqb-true o p e))
holds_so WaitKind.Put o since s (Waiting.Put p x) e = ap (λ k. has_room (earlier (is_put k) since s.items) (slice_get s.objects k)) (sym (eqb-true o p e))
holds_so WaitKind.Take o since s (Waiting.Take p) e = ap (λ k. has_item (earlier (is_take k) since s.items) (slice_get s.objects k)) (sym (eqb-true o p e))
holds_so WaitKind.Place o since s (Waiting.Place p g xs) e = ap (λ k. has_place (earlier (is_place k) since s.items) (slice_get s.objects k)) (sym (eqb-true o p e))
holds_so WaitKind.Place o since s (Waiting.MapPlace p g xs made) e = ap (λ k. has_place (earlier (is_place k) since s.items) (slice_get s.objects k)) (sym (eqb-true o p e))
holds_so WaitKind.Slot o since s (Waiting.Slot p job takes) e = ap (λ k. has_slot (earlier (is_slot k) since s.items) (slice_get s.objects k)) (sym (eqb-true o p e))
holds_so WaitKind.TakeOffer o since s (Waiting.TakeOffer p) e = ap (λ k. has_offer (earlier (is_take_offer k) since s.items) (slice_get s.objects k)) (sym (eqb-true o p e))
holds_so kind o since s w e = absurd (true≢false (sym e))

item_holds_so : (kind : WaitKind) (o : ℕ) (s : State) (i : Item) → waits_in_line kind o i.delivery ≡ true → holds s i ≡ holds_in_line kind (earlier (test_of kind o) i.since s.items) (slice_get s.objects o)
item_holds_so kind o s i = by i.delivery
  where
    by : (d : Delivery) → waits_in_line kind o d ≡ true → holds s (record i { delivery = d }) ≡ holds_in_line kind (earlier (test_of kind o) i.since s.items) (slice_get s.objects o)
    by (Delivery.Wake g w) e = holds_so kind o i.since s w e
    by d e = absurd (true≢false (sym e))

-- so many items that deliver this, made at this place, and others
abbrev made : Delivery → ℕ → ℕ → List Item → List Item
made d since zero others = others
made d since (suc n) others = record { since = since; delivery = d; ready = None } ∷ made d since n others

-- those of them are earlier that were made before
earlier_made : (test : Waiting → Bool) (d : Delivery) (since n before : ℕ) (others : List Item) (b : Bool) → wakes test d ≡ true → nat_lt since before ≡ b →
    earlier test before (made d since n others) ≡ cond b n 0 + earlier test before others
earlier_made test d since zero before others true t e = omega arith
earlier_made test d since zero before others false t e = omega arith
earlier_made test d since (suc n) before others b t e =
    earlier-cons test before (record { since = since; delivery = d; ready = None }) (made d since n others)
    ∙ ap (λ (k : ℕ). cond (nat_lt since before && wakes test d) 1 0 + k) (earlier_made test d since n before others b t e)
    ∙ one b (wakes test d) (nat_lt since before) t e
  where
    one : (b w l : Bool) → w ≡ true → l ≡ b → cond (l && w) 1 0 + (cond b n 0 + earlier test before others) ≡ cond b (suc n) 0 + earlier test before others
    one true true true t e = omega arith
    one false true false t e = omega arith
    one true true false t e = absurd (true≢false (sym e))
    one false true true t e = absurd (true≢false e)
    one b false l t e = absurd (true≢false (sym t))

-- who waits in a line holds with fewer before it too: so it is of one in front of another, among so many that wait so
holds_before : (kind : WaitKind) (o m n : ℕ) (s : State) (d : Delivery) → waits_in_line kind o d ≡ true → m ≤ n → holds_in_line kind n (slice_get s.objects o) ≡ true → holds_in_line kind m (slice_get s.objects o) ≡ true
holds_before kind o m n s d t l h =
    ap (λ k. holds_in_line kind k (slice_get s.objects o)) (sym first) ∙ sym (item_holds_so kind o crowd (at 1) t)
    ∙ line_holds crowd (at 1) (at 2) (record { line = one_line kind o d d t t; older = omega arith }) (item_holds_so kind o crowd (at 2) t ∙ ap (λ k. holds_in_line kind k (slice_get s.objects o)) second ∙ h)
  where
    crowd : State
    crowd = record s { items = made d 0 m (made d 1 (n - m) []) }

    at : ℕ → Item
    at since = record { since = since; delivery = d; ready = None }

    first : earlier (test_of kind o) 1 crowd.items ≡ m
    first =
        let a = earlier_made (test_of kind o) d 0 m 1 (made d 1 (n - m) []) true t refl in
        let b = earlier_made (test_of kind o) d 1 (n - m) 1 [] false t refl in
        let c : earlier (test_of kind o) 1 [] ≡ 0 = refl in
        omega (arith, a, b, c)

    second : earlier (test_of kind o) 2 crowd.items ≡ n
    second =
        let a = earlier_made (test_of kind o) d 0 m 2 (made d 1 (n - m) []) true t refl in
        let b = earlier_made (test_of kind o) d 1 (n - m) 2 [] true t refl in
        let c : earlier (test_of kind o) 2 [] ≡ 0 = refl in
        omega (arith, a, b, c, l)

-- ---- who has a number, by how many are before it

at_most : (a b : Bool) → (a ≡ true → b ≡ true) → cond a 1 0 ≤ cond b 1 0
at_most true true f = omega arith
at_most true false f = absurd (true≢false (sym (f refl)))
at_most false true f = omega arith
at_most false false f = omega arith

-- where each that passes the one test passes the other, no more pass it
no_more : (p r : Item → Bool) (items : List Item) → ((j : Item) → In j items → p j ≡ true → r j ≡ true) → count_by p items ≤ count_by r items
no_more p r [] f = omega arith
no_more p r (j ∷ items) f =
    let rest = no_more p r items (λ k m. f k (inr m)) in
    let here = at_most (p j) (r j) (f j (inl refl)) in
    let a = sum_by-cons (λ (x : Item). cond (p x) 1 0) j items in
    let b = sum_by-cons (λ (x : Item). cond (r x) 1 0) j items in
    omega (arith, rest, here, a, b)

-- and fewer, where one passes the other alone
fewer : (p r : Item → Bool) (items : List Item) (i : Item) → In i items → p i ≡ false → r i ≡ true → ((j : Item) → In j items → p j ≡ true → r j ≡ true) → count_by p items + 1 ≤ count_by r items
fewer p r [] i m e t f = absurd m
fewer p r (j ∷ items) i m e t f =
    let a = sum_by-cons (λ (x : Item). cond (p x) 1 0) j items in
    let b = sum_by-cons (λ (x : Item). cond (r x) 1 0) j items in
    by m a b (λ k. fewer p r items i k e t (λ x l. f x (inr l)))
  where
    by : In i (j ∷ items) → count_by p (j ∷ items) ≡ cond (p j) 1 0 + count_by p items → count_by r (j ∷ items) ≡ cond (r j) 1 0 + count_by r items → (In i items → count_by p items + 1 ≤ count_by r items) →
        count_by p (j ∷ items) + 1 ≤ count_by r (j ∷ items)
    by (inl same) a b rest =
        let c : ◌≡◌ {A = ℕ} (cond (p j) 1 0) 0 = ap (λ x. cond x 1 0) (ap p same ∙ e) in
        let d : ◌≡◌ {A = ℕ} (cond (r j) 1 0) 1 = ap (λ x. cond x 1 0) (ap r same ∙ t) in
        let g = no_more p r items (λ x l. f x (inr l)) in
        omega (arith, a, b, c, d, g)
    by (inr k) a b rest = let here = at_most (p j) (r j) (f j (inl refl)) in let g = rest k in omega (arith, a, b, here, g)

-- those with a number are more than those before one that has one, and no more than those before one that has none
pub record StandsSo (kind : WaitKind) (o : ℕ) (es : List Entry) (i : Item) : Type 0 where
  pub numbered : is_some i.ready ≡ true → earlier (test_of kind o) i.since (flat es) + 1 ≤ numbered_in_line kind o es
  pub waiting : is_some i.ready ≡ false → numbered_in_line kind o es ≤ earlier (test_of kind o) i.since (flat es)
  pub some_left : is_some i.ready ≡ false → numbered_in_line kind o es + 1 ≤ waiting_in_line kind o es

pub stands_so : (kind : WaitKind) (o : ℕ) (s : State) (es : List Entry) (i : Item) → s.items ≡ flat es → NumbersStandInFront s → In i (flat es) → waits_in_line kind o i.delivery ≡ true → StandsSo kind o es i
stands_so kind o s es i items front m t = record {
  numbered = λ r. fewer before numbered (flat es) i m (ap (λ b. b && waits i) (nat_not_lt i.since)) (and_from (is_some i.ready) (waits i) r t) (λ j k b. of_before r j k (and_parts (nat_lt j.since i.since) (waits j) b));
  waiting = λ r. no_more numbered before (flat es) (λ j k b. of_numbered r j k (and_parts (is_some j.ready) (waits j) b));
  some_left = λ r. subst (λ n. numbered_in_line kind o es + 1 ≤ n) (sym (length_index (waits_in_line kind o) es))
      (fewer numbered waits (flat es) i m (ap (λ b. b && waits i) r) t (λ j k b. (and_parts (is_some j.ready) (waits j) b).1));
}
  where
    waits : Item → Bool
    waits j = waits_in_line kind o j.delivery

    numbered : Item → Bool
    numbered j = is_some j.ready && waits j

    before : Item → Bool
    before j = nat_lt j.since i.since && waits j

    nat_not_lt : (n : ℕ) → nat_lt n n ≡ false
    nat_not_lt n = grind (arith, nat_tests)

    passes : (j k : Item) → In j (flat es) → In k (flat es) → waits j ≡ true → waits k ≡ true → j.since ≤ k.since → is_some k.ready ≡ true → is_some j.ready ≡ true
    passes j k a b u v l r =
        in_front s j k front (subst (λ (is : List Item). In j is) (sym items) a) (subst (λ (is : List Item). In k is) (sym items) b) (record { line = one_line kind o j.delivery k.delivery u v; older = l }) r

    of_before : is_some i.ready ≡ true → (j : Item) → In j (flat es) → (nat_lt j.since i.since ≡ true) × (waits j ≡ true) → numbered j ≡ true
    of_before r j k b = let l = b.0 in and_from (is_some j.ready) (waits j) (passes j i k m b.1 t (grind (arith, nat_tests)) r) b.1

    of_numbered : is_some i.ready ≡ false → (j : Item) → In j (flat es) → (is_some j.ready ≡ true) × (waits j ≡ true) → before j ≡ true
    of_numbered r j k b = and_from (nat_lt j.since i.since) (waits j) (by (nat_lt j.since i.since) refl) b.1
      where
        by : (c : Bool) → nat_lt j.since i.since ≡ c → nat_lt j.since i.since ≡ true
        by true e = e
        by false e = absurd (true≢false (sym (passes i j m k t b.1 (grind (arith, nat_tests)) b.0) ∙ r))

-- no more have a number than there are
pub numbered_few : (kind : WaitKind) (o : ℕ) (es : List Entry) → numbered_in_line kind o es ≤ waiting_in_line kind o es
numbered_few kind o es =
    subst (λ n. numbered_in_line kind o es ≤ n) (sym (length_index (waits_in_line kind o) es))
    (no_more (λ (j : Item). is_some j.ready && waits_in_line kind o j.delivery) (λ (j : Item). waits_in_line kind o j.delivery) (flat es) (λ j k b. (and_parts (is_some j.ready) (waits_in_line kind o j.delivery) b).1))

-- who has no more before it than so many holds, where those do that have so many
pub holds_by : (kind : WaitKind) (o most : ℕ) (s : State) (es : List Entry) (i : Item) → s.items ≡ flat es → waits_in_line kind o i.delivery ≡ true → earlier (test_of kind o) i.since (flat es) ≤ most →
    holds_in_line kind most (slice_get s.objects o) ≡ true → holds s i ≡ true
holds_by kind o most s es i items t few holding =
    item_holds_so kind o s i t ∙ ap (λ (is : List Item). holds_in_line kind (earlier (test_of kind o) i.since is) (slice_get s.objects o)) items
    ∙ holds_before kind o (earlier (test_of kind o) i.since (flat es)) most s i.delivery t few holding

-- where the last with a number holds, each that has one does
pub numbered_holds : (kind : WaitKind) (o numbered : ℕ) (s : State) (es : List Entry) (q : ℕ) (i : Item) → s.items ≡ flat es → NumbersStandInFront s → numbered ≡ numbered_in_line kind o es →
    ((numbered ≡ 0 → ⊥) → holds_in_line kind (numbered - 1) (slice_get s.objects o) ≡ true) → item_in q es ≡ Some i → waits_in_line kind o i.delivery ≡ true → is_some i.ready ≡ true → holds s i ≡ true
numbered_holds kind o numbered s es q i items front n last there t r =
    let few = (stands_so kind o s es i items front (in_flat q i es there) t).numbered r in
    holds_by kind o (numbered - 1) s es i items t (omega (arith, few, n)) (last (λ u. omega (arith, few, n, u)))

-- ---- a line that is settled

pub line_by_counts : (kind : WaitKind) (o numbered waiting : ℕ) (s : State) (es : List Entry) → s.items ≡ flat es → NumbersStandInFront s → numbered ≡ numbered_in_line kind o es → waiting ≡ waiting_in_line kind o es →
    ((numbered ≡ 0 → ⊥) → holds_in_line kind (numbered - 1) (slice_get s.objects o) ≡ true) → ((numbered ≡ waiting → ⊥) → holds_in_line kind numbered (slice_get s.objects o) ≡ false) → AgreesAlong (waits_in_line kind o) s es
line_by_counts kind o numbered waiting s es items front n m last first q i there t = by (is_some i.ready) refl (stands_so kind o s es i items front (in_flat q i es there) t)
  where
    object : Option Object
    object = slice_get s.objects o

    before : ℕ
    before = earlier (test_of kind o) i.since (flat es)

    holds_at : holds s i ≡ holds_in_line kind before object
    holds_at = item_holds_so kind o s i t ∙ ap (λ (is : List Item). holds_in_line kind (earlier (test_of kind o) i.since is) object) items

    fails : (b : Bool) → holds_in_line kind before object ≡ b → numbered ≤ before → numbered + 1 ≤ waiting → holds_in_line kind before object ≡ false
    fails false e l k = e
    fails true e l k = absurd (true≢false (sym (holds_before kind o numbered before s i.delivery t l e) ∙ first (λ u. omega (arith, u, k))))

    by : (b : Bool) → is_some i.ready ≡ b → StandsSo kind o es i → is_some i.ready ≡ holds s i
    by true r so = r ∙ sym (numbered_holds kind o numbered s es q i items front n last there t r)
    by false r so =
        let few = so.waiting r in let left = so.some_left r in
        r ∙ sym (holds_at ∙ fails (holds_in_line kind before object) refl (omega (arith, few, n)) (omega (arith, left, n, m)))

pub loses_none : (r : Option ℕ) (h : Bool) → is_some r ≡ h → (not h && is_some r) ≡ true → ⊥
loses_none None true e t = true≢false (sym e)
loses_none None false e t = true≢false (sym t)
loses_none (Some n) true e t = true≢false (sym t)
loses_none (Some n) false e t = true≢false e

pub gains_none : (r : Option ℕ) (h : Bool) → is_some r ≡ h → (h && is_none r) ≡ true → ⊥
gains_none None true e t = true≢false (sym e)
gains_none None false e t = true≢false (sym t)
gains_none (Some n) true e t = true≢false (sym t)
gains_none (Some n) false e t = true≢false e

pub line_settled : (test : Delivery → Bool) (s : State) (es : List Entry) (old : SeenFound) → AgreesAlong test s es → LooksAlong test s es old old
line_settled test s es old all = record {
  finds = λ done new f. (record {
    lost = found_as (Delivers done) (Delivers (λ d. done d || test d)) (loses_number (holds s)) es old.lost (λ r j t u m. or_left (done j.delivery) (test j.delivery) m)
        (λ r j t u m. of_done done j (λ k. loses_none j.ready (holds s j) (all r j t k) u) m) f.lost;
    gained = found_as (Delivers done) (Delivers (λ d. done d || test d)) (needs_number (holds s)) es old.gained (λ r j t u m. or_left (done j.delivery) (test j.delivery) m)
        (λ r j t u m. of_done done j (λ k. gains_none j.ready (holds s j) (all r j t k) u) m) f.gained;
  });
  room = refl;
}
  where
    of_done : (done : Delivery → Bool) (j : Item) → (test j.delivery ≡ true → ⊥) → (done j.delivery || test j.delivery) ≡ true → done j.delivery ≡ true
    of_done done j other m = by (or_cases (done j.delivery) (test j.delivery) m)
      where
        by : (done j.delivery ≡ true) ⊎ (test j.delivery ≡ true) → done j.delivery ≡ true
        by (inl a) = a
        by (inr k) = absurd (other k)
