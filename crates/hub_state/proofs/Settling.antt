-- Where those that were found lose and get their numbers, the state is settled.
use Rattle.std.proofs.Common.{◌≡◌, refl, sym, ap, ◌∙◌, subst, ℕ, suc, ◌+◌, ◌≤◌, Bool, true, false, cond, not, List, [], ◌∷◌, length, Option, Some, None, inl, inr, arith}
use Rattle.std.proofs.lemmas.Bool.{and_parts, true≢false}
use Rattle.std.proofs.lemmas.List.Elements.{All-from_recursion}
use Rattle.std.proofs.lemmas.List.Sorted.{Contains-permutation, IsPermutation-map, IsPermutation-sym}
use Rattle.std.specs.List.{All, Contains}
use Rattle.std.specs.List.Sorted.{IsNonDecreasingBy, IsPermutation}
use Rattle.std.specs.Prelude.{◌↔◌, IsTrue, filter, is_none, is_some, map}
use Rattle.item_places.specs.Items.{Differ}
use Rattle.machine.specs.declared.items.Item.{Item}
use Rattle.machine.specs.Holds.{holds}
use Rattle.machine.specs.Settle.{number_after, settle, settled}
use Rattle.machine.specs.Soundness.{ascend}
use Rattle.machine.specs.State.{State}
use Rattle.machine_settling.specs.Classes.{Class, is_of}
use Rattle.machine_settling.specs.Locality.{AgreesOutside}
use Rattle.machine_settling.specs.Numbers.{gives_all, loses_number, needs_number, since_of, takes_all}
use Rattle.machine_settling.proofs.Members.{In, contains_of_in, in_of_Contains}
use Rattle.machine_settling.proofs.Parts.{all_by, settle-touched}
use Rattle.hub_items.specs.Sound.{AscendTo}
use Rattle.held_items.specs.Entries.{Entry, SeenItems, flat, item_in, slots_of}
use Rattle.held_items.specs.Moments.{slots_in}
use Rattle.held_items.proofs.Ordering.{same_item}
use Rattle.hub_state.specs.Found.{AreFound, AreReady, HasFound, IsOf, LooksAt, MayLookAt, Numbers, SeenFound, emptied, is_moment, sinces_in, touched_now}
use Rattle.hub_state.specs.Over.{whole, with_held}
use Rattle.hub_state.specs.Touched.{IsKept, IsPast, SeenTouched, reopened, untouched}
use Rattle.hub_state.specs.declared.base.Base.{Base}
use Rattle.hub_state.proofs.Finding.{entry_there, in_flat, in_map, item_of_in, map_in, pair_of}
use Rattle.hub_state.proofs.Joining.{looks_all, may_look_touched}
use Rattle.hub_state.proofs.Keeping.{hub_settled}
use Rattle.hub_state.proofs.Sorting.{differ_moved, rising_sinces}
use Rattle.hub_state.proofs.UpToDate.{ascending}
use Rattle.hub_state.proofs.Walks.{length_flat}

-- ---- items in order of making

since_least : (low next : ℕ) (es : List Entry) (e : Entry) → AscendTo low next (flat es) → In e es → low ≤ e.1.since
since_least low next [] e a h = absurd h
since_least low next (x ∷ es) e a (inl s) = subst (λ (y : Entry). low ≤ y.1.since) s a.above
since_least low next (x ∷ es) e a (inr h) = let b = a.above in let c = since_least (x.1.since + 1) next es e a.rest h in omega (arith, b, c)

-- entries of one since are one
same_entry : (low next : ℕ) (es : List Entry) (a b : Entry) → AscendTo low next (flat es) → In a es → In b es → a.1.since ≡ b.1.since → a ≡ b
same_entry low next [] a b asc h k s = absurd h
same_entry low next (x ∷ es) a b asc (inl h) (inl k) s = sym h ∙ k
same_entry low next (x ∷ es) a b asc (inl h) (inr k) s = absurd (let c = since_least (x.1.since + 1) next es b asc.rest k in let t : x.1.since ≡ a.1.since = ap (λ (y : Entry). y.1.since) h in omega (arith, c, t, s))
same_entry low next (x ∷ es) a b asc (inr h) (inl k) s = absurd (let c = since_least (x.1.since + 1) next es a asc.rest h in let t : x.1.since ≡ b.1.since = ap (λ (y : Entry). y.1.since) k in omega (arith, c, t, s))
same_entry low next (x ∷ es) a b asc (inr h) (inr k) s = same_entry (x.1.since + 1) next es a b asc.rest h k s

in_kept : (q : Item → Bool) (items : List Item) (i : Item) → In i items → q i ≡ true → In i (filter q items)
in_kept q [] i h t = absurd h
in_kept q (j ∷ items) i (inl e) t = first (q j) (ap q e ∙ t)
  where
    first : (b : Bool) → b ≡ true → In i (cond b (j ∷ filter q items) (filter q items))
    first true u = inl e
    first false u = absurd (true≢false (sym u))
in_kept q (j ∷ items) i (inr h) t = later (q j) (in_kept q items i h t)
  where
    later : (b : Bool) → In i (filter q items) → In i (cond b (j ∷ filter q items) (filter q items))
    later true k = inr k
    later false k = k

-- ---- what was found, by its sinces

module _ (classes : Class → Bool) (test : Item → Bool) (es : List Entry) (next : ℕ) (asc : AscendTo 0 next (flat es)) (differ : Differ (slots_of es)) (ps : List (ℕ × ℕ)) (a : AreFound (IsOf classes) test es ps) where
  entry_of : (p : ℕ × ℕ) → (h : Contains ps p) → In (p.1, (a.sound p h).item) es
  entry_of p h = entry_there p.1 es (a.sound p h).item (a.sound p h).there

  pub one_slot : (p q : ℕ × ℕ) → Contains ps p → Contains ps q → p.0 ≡ q.0 → p.1 ≡ q.1
  one_slot p q h k e = ap (λ (x : Entry). x.0) (same_entry 0 next es (p.1, (a.sound p h).item) (q.1, (a.sound q k).item) asc (entry_of p h) (entry_of q k) ((a.sound p h).since ∙ e ∙ sym (a.sound q k).since))

  pub found_known : All (Contains (map since_of (filter (is_of classes) (flat es)))) (sinces_in ps)
  found_known = All-from_recursion (Contains (map since_of (filter (is_of classes) (flat es)))) (sinces_in ps) (all_by (Contains (map since_of (filter (is_of classes) (flat es)))) (sinces_in ps) (λ n h. by n (map_in (λ (p : ℕ × ℕ). p.0) ps n h)))
    where
      by : (n : ℕ) → (p : ℕ × ℕ) × In p ps × (p.0 ≡ n) → Contains (map since_of (filter (is_of classes) (flat es))) n
      by n (p, h, e) =
          let f = a.sound p (contains_of_in ps p h) in
          let kept = in_kept (is_of classes) (flat es) f.item (in_flat p.1 f.item es f.there) f.looked in
          contains_of_in (map since_of (filter (is_of classes) (flat es))) n (subst (λ m. In m (map since_of (filter (is_of classes) (flat es)))) (f.since ∙ e) (in_map since_of (filter (is_of classes) (flat es)) f.item kept))

  pub found_each : All (λ i. IsTrue (is_of classes i) → Contains (sinces_in ps) i.since ↔ IsTrue (test i)) (flat es)
  found_each = All-from_recursion (λ i. IsTrue (is_of classes i) → Contains (sinces_in ps) i.since ↔ IsTrue (test i)) (flat es)
      (all_by (λ i. IsTrue (is_of classes i) → Contains (sinces_in ps) i.since ↔ IsTrue (test i)) (flat es) (λ i k u. each i u (map_in (λ (e : Entry). e.1) es i k)))
    where
      to : (e : Entry) → In e es → (p : ℕ × ℕ) × In p ps × (p.0 ≡ e.1.since) → test e.1 ≡ true
      to e k (p, h, s) =
          let f = a.sound p (contains_of_in ps p h) in
          let same = same_entry 0 next es (p.1, f.item) e asc (entry_there p.1 es f.item f.there) k (f.since ∙ s) in
          ap (λ (x : Entry). test x.1) (sym same) ∙ f.passes

      from : (e : Entry) → In e es → (p : ℕ × ℕ) × Contains ps p × (p.1 ≡ e.0) → Contains (sinces_in ps) e.1.since
      from e k (p, h, s) =
          let f = a.sound p h in
          let same : f.item ≡ e.1 = same_item e.0 es f.item e.1 (ap (λ q. item_in q es) (sym s) ∙ f.there) (item_of_in es e differ k) in
          contains_of_in (sinces_in ps) e.1.since (subst (λ n. In n (sinces_in ps)) (sym f.since ∙ ap since_of same) (in_map (λ (r : ℕ × ℕ). r.0) ps p (in_of_Contains ps p h)))

      each : (i : Item) → is_of classes i ≡ true → (e : Entry) × In e es × (e.1 ≡ i) → Contains (sinces_in ps) i.since ↔ IsTrue (test i)
      each i u (e, k, s) = subst (λ (j : Item). Contains (sinces_in ps) j.since ↔ IsTrue (test j)) s (
        λ c. to e k (map_in (λ (p : ℕ × ℕ). p.0) ps e.1.since (in_of_Contains (sinces_in ps) e.1.since c)),
        λ t. from e k (pair_of ps e.0 (a.complete e.0 e.1 (item_of_in es e differ k) (ap (is_of classes) s ∙ u) t)),
      )

-- in another order the same were found
found_moved : (seen : Entry → Type 0) (test : Item → Bool) (es : List Entry) (ps qs : List (ℕ × ℕ)) → IsPermutation ps qs → AreFound seen test es ps → AreFound seen test es qs
found_moved seen test es ps qs m a = record {
  apart = differ_moved (slots_in ps) (slots_in qs) (IsPermutation-map (λ p. p.1) ps qs m) a.apart;
  sound = λ p h. a.sound p (Contains-permutation qs ps p (IsPermutation-sym ps qs m) h);
  complete = λ q i t l u. Contains-permutation (slots_in ps) (slots_in qs) q (IsPermutation-map (λ p. p.1) ps qs m) (a.complete q i t l u);
}

-- who takes and gives the numbers of those that were found has settled
found_settles : (classes : Class → Bool) (s : State) (es : List Entry) (next : ℕ) (f : SeenFound) (qs : List (ℕ × ℕ)) → s.items ≡ flat es → s.next_since ≡ next → AscendTo 0 next (flat es) → Differ (slots_of es) → AgreesOutside classes s →
    HasFound classes s es f → IsPermutation f.gained qs → IsNonDecreasingBy (λ p. p.0) qs → settle s ≡ gives_all (sinces_in qs) (takes_all (sinces_in f.lost) s)
found_settles classes s es next f qs items since asc differ agrees found moved sorted =
    let gained = found_moved (IsOf classes) (needs_number (holds s)) es f.gained qs moved found.gained in
    settle-touched classes s (sinces_in f.lost) (sinces_in qs)
    (subst (λ n. ascend 0 n s.items ≡ true) (sym since) (subst (λ (xs : List Item). ascend 0 next xs ≡ true) (sym items) (ascending 0 next (flat es) asc)))
    agrees
    (record {
      known = subst (λ (xs : List Item). All (Contains (map since_of (filter (is_of classes) xs))) (sinces_in f.lost)) (sym items) (found_known classes (loses_number (holds s)) es next asc differ f.lost found.lost);
      each = subst (λ (xs : List Item). All (λ i. IsTrue (is_of classes i) → Contains (sinces_in f.lost) i.since ↔ IsTrue (loses_number (holds s) i)) xs) (sym items) (found_each classes (loses_number (holds s)) es next asc differ f.lost found.lost);
    })
    (record {
      rising = rising_sinces qs sorted gained.apart (one_slot classes (needs_number (holds s)) es next asc differ qs gained);
      known = subst (λ (xs : List Item). All (Contains (map since_of (filter (is_of classes) xs))) (sinces_in qs)) (sym items) (found_known classes (needs_number (holds s)) es next asc differ qs gained);
      each = subst (λ (xs : List Item). All (λ i. IsTrue (is_of classes i) → Contains (sinces_in qs) i.since ↔ IsTrue (needs_number (holds s) i)) xs) (sym items) (found_each classes (needs_number (holds s)) es next asc differ qs gained);
    })

-- ---- who was found has a number, or none

found_ready : (seen : Entry → Type 0) (test : Item → Bool) (numbered : Bool) (es : List Entry) (ps : List (ℕ × ℕ)) → ((i : Item) → test i ≡ true → is_some i.ready ≡ numbered) → AreFound seen test es ps → AreReady numbered es ps
found_ready seen test numbered es ps says a = record {
  apart = a.apart;
  there = λ p h. (let f = a.sound p h in record { item = f.item; there = f.there; since = f.since; ready = says f.item f.passes });
}

lost_ready : (holding : Item → Bool) (i : Item) → loses_number holding i ≡ true → is_some i.ready ≡ true
lost_ready holding i t = (and_parts (not (holding i)) (is_some i.ready) t).1

gained_ready : (holding : Item → Bool) (i : Item) → needs_number holding i ≡ true → is_some i.ready ≡ false
gained_ready holding i t = by i.ready (and_parts (holding i) (is_none i.ready) t).1
  where
    by : (r : Option ℕ) → is_none r ≡ true → is_some r ≡ false
    by None e = refl
    by (Some n) e = absurd (true≢false (sym e))

-- ---- all of it

-- a look at those whose moment has come
abbrev pub LooksDue : State → List Entry → SeenFound → SeenFound → Type 0
LooksDue s es x y = (r : State) → r.moment ≡ s.moment → All (IsPast s.moment) (flat es) → LooksAt is_moment r es x y

due_first : (held : SeenItems) (t : SeenTouched) (s : State) (f x y : SeenFound) → s.items ≡ flat held.entries → IsKept held t s → x ≡ emptied f → LooksDue s held.entries x y → LooksAt is_moment s held.entries (emptied f) y
due_first held t s f x y items k none due = subst (λ (g : SeenFound). LooksAt is_moment s held.entries g y) none (due s refl (subst (All (IsPast s.moment)) items k.current.past))

-- the looks at those whose moment has come, which leaves the items as they are, and at what was touched, find all that a
-- settling has to look at
pub looked_all : (held before : SeenItems) (t : SeenTouched) (b : Base) (f x y z : SeenFound) → before ≡ held → IsKept held t (whole b held) → x ≡ emptied f → LooksDue (whole b held) held.entries x y →
    LooksAt (touched_now t) (whole b before) before.entries y z → HasFound (reopened t) (whole b held) held.entries z
looked_all held before t b f x y z same k none due touched =
    looks_all t (whole b held) held.entries f y z (due_first held t (whole b held) f x y refl k none due) (subst (λ (h : SeenItems). LooksAt (touched_now t) (whole b h) h.entries y z) same touched)

-- the room stays
pub room_left : (held before : SeenItems) (t : SeenTouched) (b : Base) (f x y z : SeenFound) → IsKept held t (whole b held) → x ≡ emptied f → LooksDue (whole b held) held.entries x y → LooksAt (touched_now t) (whole b before) before.entries y z →
    z.room ≡ f.room
room_left held before t b f x y z k none due touched = touched.room ∙ (due_first held t (whole b held) f x y refl k none due).room

-- after the first of them there is room for the second
pub may_look_now : (held : SeenItems) (t : SeenTouched) (s : State) (f x y : SeenFound) → s.items ≡ flat held.entries → IsKept held t s → Differ (slots_of held.entries) → length held.entries ≤ f.room → x ≡ emptied f →
    LooksDue s held.entries x y → MayLookAt (touched_now t) s held.entries y
may_look_now held t s f x y items k differ room none due = may_look_touched t s held.entries f y differ room (due_first held t s f x y items k none due)

-- those that were found to lose their numbers have one, and the others have none
pub lost_there : (held before : SeenItems) (t : SeenTouched) (s : State) (f : SeenFound) → before ≡ held → HasFound (reopened t) s held.entries f → AreReady true before.entries f.lost
lost_there held before t s f same found =
    subst (λ (h : SeenItems). AreReady true h.entries f.lost) (sym same) (found_ready (IsOf (reopened t)) (loses_number (holds s)) true held.entries f.lost (lost_ready (holds s)) found.lost)

pub gained_there : (held before : SeenItems) (t : SeenTouched) (s : State) (f : SeenFound) → before ≡ held → HasFound (reopened t) s held.entries f → AreReady false before.entries f.gained
gained_there held before t s f same found =
    subst (λ (h : SeenItems). AreReady false h.entries f.gained) (sym same) (found_ready (IsOf (reopened t)) (needs_number (holds s)) false held.entries f.gained (gained_ready (holds s)) found.gained)

-- the state is settled, all is up to date, and there are as many items as before
pub record AreSettled (held new : SeenItems) (t now : SeenTouched) (s : State) : Type 0 where
  pub is : with_held new s ≡ settle s
  pub kept : IsKept new now (with_held new s)
  pub count : length new.entries ≡ length held.entries

settled_length : (hs : List Bool) (n : ℕ) (items : List Item) → length (settled hs n items) ≡ length items
settled_length [] n items = refl
settled_length (h ∷ hs) n [] = refl
settled_length (h ∷ hs) n (i ∷ items) = ap suc (settled_length hs (number_after h i.ready n) items)

pub numbers_settle : (held before new : SeenItems) (t now : SeenTouched) (s : State) (f g : SeenFound) → s ≡ with_held held s → IsKept held t s → Differ (slots_of held.entries) → AscendTo 0 held.next_since (flat held.entries) →
    HasFound (reopened t) s held.entries f → before ≡ held → Numbers f g before new → now ≡ untouched t → AreSettled held new t now s
numbers_settle held before new t now s f g whole k differ asc found same n clear =
    let items : s.items ≡ flat held.entries = ap (λ (r : State). r.items) whole in
    let settles = found_settles (reopened t) s held.entries held.next_since f g.gained items (ap (λ (r : State). r.next_since) whole) asc differ k.current.agrees found n.moved n.sorted in
    let is : with_held new s ≡ settle s =
    n.is s ∙ ap (λ (h : SeenItems). gives_all (sinces_in g.gained) (takes_all (sinces_in f.lost) (with_held h s))) same ∙ ap (λ (r : State). gives_all (sinces_in g.gained) (takes_all (sinces_in f.lost) r)) (sym whole) ∙ sym settles in
    let settled : with_held new s ≡ settle (with_held held s) = is ∙ ap settle whole in
    record {
      is = is;
      kept =
          hub_settled held new t now s (ap (λ (r : State). r.items) settled) (ap (λ (r : State). r.next_ready) settled) (ap (λ (r : State). r.next_since) settled) clear
          (subst (IsKept held t) whole k);
      count =
          length_flat new.entries ∙ ap (λ (r : State). length r.items) settled ∙ settled_length (map (holds (with_held held s)) (flat held.entries)) held.next (flat held.entries)
          ∙ sym (length_flat held.entries);
    }
