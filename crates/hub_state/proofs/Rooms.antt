-- That there is room for each that is found: those are different items, and so not more than there are.
use Rattle.std.proofs.Common.{◌≡◌, ◌≢◌, refl, sym, ap, ◌∙◌, subst, ℕ, ◌+◌, ◌<◌, ◌≤◌, Bool, true, false, cond, not, List, [], ◌∷◌, ◌++◌, length, take, drop, get_or, Option, Some, None, ◌⊎◌, inl, inr, arith}
use Rattle.std.proofs.lemmas.Bool.{and_parts, or_left, true≢false}
use Rattle.std.proofs.lemmas.Bool.Decides.{nat_tests}
use Rattle.std.proofs.lemmas.List.{length-map, take-append-drop, take_more}
use Rattle.std.proofs.lemmas.List.Sums.{count_by-le-length, length-filter}
use Rattle.std.specs.List.{Contains, list_any}
use Rattle.std.specs.Prelude.{◌==◌, ◌&&◌, ◌||◌, IsTrue, count_by, filter, is_none, map, nat_le, nat_lt}
use Rattle.item_places.specs.Items.{Differ, Lacks, without_number}
use Rattle.item_places.proofs.ItemLemmas.{absent_of_lacks, differ_from_front, differ_of_without, lacks_of_absent, test_keeps, without_length}
use Rattle.machine.specs.declared.items.Delivery.{Delivery}
use Rattle.machine.specs.declared.items.Item.{Item}
use Rattle.machine.specs.declared.items.Waiting.{Waiting}
use Rattle.machine.specs.Holds.{holds}
use Rattle.machine.specs.State.{State}
use Rattle.machine_settling.specs.Classes.{Class, class_of, class_of_wait, is_at}
use Rattle.machine_settling.specs.Numbers.{loses_number, needs_number}
use Rattle.machine_settling.specs.Steps.{either}
use Rattle.machine_settling.proofs.Members.{In, contains_of_in}
use Rattle.hub_items.specs.declared.waits.WaitKind.{WaitKind}
use Rattle.hub_items.specs.Lines.{line_of_delivery}
use Rattle.hub_items.specs.WaitKinds.{test_of}
use Rattle.held_items.specs.Entries.{Entry, flat, index, item_in, slots_of}
use Rattle.held_items.specs.Lined.{is_waiting}
use Rattle.held_items.specs.Moments.{slots_in}
use Rattle.held_items.specs.Waits.{is_for, line_column, object_place, target_of, waits_at, waits_in_line, waits_in_none, waits_key}
use Rattle.held_items.specs.declared.waits.Target.{Target}
use Rattle.held_items.proofs.Dropping.{index_differ}
use Rattle.held_items.proofs.EntryLemmas.{length_slots}
use Rattle.held_items.proofs.IndexWalks.{IsAlong, IsStanding, along_at}
use Rattle.held_items.proofs.Ordering.{same_item}
use Rattle.held_items.proofs.Tallying.{count_few}
use Rattle.held_items.proofs.WaitPlaces.{line_key, none_key}
use Rattle.hub_state.specs.Found.{AreFound, Finds, HasFound, HasPlace, IsOf, LooksAlong, LooksAt, MayLookAlong, MayLookAt, SeenFound, at_objects, for_one_of, for_several, is_always, is_one_of, touched_now, waits_for_nothing}
use Rattle.hub_state.specs.Touched.{SeenTouched}
use Rattle.hub_state.proofs.Alongs.{AmongTest, IsOnLine}
use Rattle.hub_state.proofs.Columns.{all_columns, columns_apart, in_columns, is_before}
use Rattle.hub_state.proofs.Finding.{entry_there, in_map, pair_of}
use Rattle.hub_state.proofs.Joining.{ends_apart, ends_more, looks_both, objects_apart, objects_apart_all, objects_more, ones_apart, or_none, several_apart}
use Rattle.hub_state.proofs.Looking.{Among, IsLooking, LooksMade, Made, delivers, not_before}
use Rattle.hub_state.proofs.Walks.{slots_there}

-- ---- no more than there are

in_without : (x y : ℕ) (ys : List ℕ) → x ≢ y → In y ys → In y (without_number x ys)
in_without x y [] n h = absurd h
in_without x y (z ∷ ys) n h = by (not (z == x)) refl h (in_without x y ys n)
  where
    by : (b : Bool) → not (z == x) ≡ b → In y (z ∷ ys) → (In y ys → In y (without_number x ys)) → In y (cond b (z ∷ without_number x ys) (without_number x ys))
    by true e (inl s) rest = inl s
    by true e (inr k) rest = inr (rest k)
    by false e (inl s) rest = absurd (true≢false (sym (test_keeps z x (λ t. n (t ∙ s))) ∙ e))
    by false e (inr k) rest = rest k

-- different numbers, each of which is one of others that differ, are no more than those
no_more : (xs ys : List ℕ) → Differ xs → Differ ys → ((x : ℕ) → In x xs → In x ys) → length xs ≤ length ys
no_more [] ys d e h = omega arith
no_more (x ∷ xs) ys d e h =
    let one = without_length x ys e (contains_of_in ys x (h x (inl refl))) in
    let more = no_more xs (without_number x ys) d.1 (differ_of_without x ys e) (λ y k. in_without x y ys (λ s. absent_of_lacks x xs d.0 (subst (λ z. Contains xs z) (sym s) (contains_of_in xs y k))) (h y (inr k))) in
    omega (arith, one, more)

slot_there : (q : ℕ) (i : Item) (es : List Entry) → item_in q es ≡ Some i → In q (slots_of es)
slot_there q i es there = in_map (λ (x : Entry). x.0) es (q, i) (entry_there q es i there)

slots_there_too : (seen : Entry → Type 0) (test : Item → Bool) (es : List Entry) (ps : List (ℕ × ℕ)) → AreFound seen test es ps → (q : ℕ) → In q (slots_in ps) → In q (slots_of es)
slots_there_too seen test es ps a q h = by (pair_of ps q (contains_of_in (slots_in ps) q h))
  where
    by : (p : ℕ × ℕ) × Contains ps p × (p.1 ≡ q) → In q (slots_of es)
    by (p, c, e) = let f = a.sound p c in subst (λ r. In r (slots_of es)) e (slot_there p.1 f.item es f.there)

-- no more are found than there are items
found_few : (seen : Entry → Type 0) (test : Item → Bool) (es : List Entry) (ps : List (ℕ × ℕ)) → Differ (slots_of es) → AreFound seen test es ps → length ps ≤ length es
found_few seen test es ps differ a =
    let most = no_more (slots_in ps) (slots_of es) a.apart differ (slots_there_too seen test es ps a) in
    let m = length-map ps (λ (p : ℕ × ℕ). p.1) in
    let n = length_slots es in
    omega (arith, most, m, n)

pub gained_few : (classes : Class → Bool) (s : State) (es : List Entry) (f : SeenFound) → Differ (slots_of es) → HasFound classes s es f → length f.gained ≤ length es
gained_few classes s es f differ a = found_few (IsOf classes) (needs_number (holds s)) es f.gained differ a.gained

-- while one was not looked at, fewer are found
found_fewer : (seen : Entry → Type 0) (test : Item → Bool) (es : List Entry) (ps : List (ℕ × ℕ)) (q : ℕ) (i : Item) → Differ (slots_of es) → item_in q es ≡ Some i → (seen (q, i) → ⊥) → AreFound seen test es ps →
    length ps < length es
found_fewer seen test es ps q i differ there unseen a =
    let most = no_more (q ∷ slots_in ps) (slots_of es) (lacks_of_absent q (slots_in ps) (λ h. absent (pair_of ps q h)), a.apart) differ all in
    let m = length-map ps (λ (p : ℕ × ℕ). p.1) in
    let n = length_slots es in
    omega (arith, most, m, n)
  where
    absent : (p : ℕ × ℕ) × Contains ps p × (p.1 ≡ q) → ⊥
    absent (p, h, e) =
        let f = a.sound p h in
        let same : f.item ≡ i = same_item q es f.item i (ap (λ r. item_in r es) (sym e) ∙ f.there) there in
        unseen (subst (λ (x : Entry). seen x) (λ k. (e k, same k)) f.looked)

    all : (r : ℕ) → In r (q ∷ slots_in ps) → In r (slots_of es)
    all r (inl e) = subst (λ x. In x (slots_of es)) e (slot_there q i es there)
    all r (inr k) = slots_there_too seen test es ps a r k

-- so there is room for it
has_place : (seen : Entry → Type 0) (s : State) (es : List Entry) (f : SeenFound) (q : ℕ) (i : Item) → Differ (slots_of es) → item_in q es ≡ Some i → (seen (q, i) → ⊥) → Finds seen s es f → length es ≤ f.room → HasPlace f
has_place seen s es f q i differ there unseen a room = record {
  lost = let l = found_fewer seen (loses_number (holds s)) es f.lost q i differ there unseen a.lost in omega (arith, l, room);
  gained = let l = found_fewer seen (needs_number (holds s)) es f.gained q i differ there unseen a.gained in omega (arith, l, room);
}

-- ---- room for the one that a walk stands at

unseen_here : (test : Delivery → Bool) (es : List Entry) (at : Option ℕ) (q : ℕ) (i : Item) → Differ (slots_of es) → (along : IsAlong test es at) → at ≡ Some q → item_in q es ≡ Some i →
    (done : Delivery → Bool) → ((d : Delivery) → IsTrue (test d) → done d ≡ false) → (done i.delivery ≡ true) ⊎ Contains (slots_of along.front) q → ⊥
unseen_here test es at q i differ along e got done new = by
  where
    st : IsStanding test es at q along
    st = along_at test es at q along differ e

    passes : test i.delivery ≡ true
    passes = ap (λ (x : Item). test x.delivery) (sym (same_item q es st.item i st.there got)) ∙ st.among.passes

    slots : index test es ≡ slots_of along.front ++ q ∷ slots_of st.others
    slots = ap slots_of st.parts ∙ slots_there along.front q st.item st.others

    by : (done i.delivery ≡ true) ⊎ Contains (slots_of along.front) q → ⊥
    by (inl m) = true≢false (sym m ∙ new i.delivery passes)
    by (inr c) = absent_of_lacks q (slots_of along.front) (differ_from_front (slots_of along.front) (slots_of st.others) q (subst Differ slots (index_differ test es differ))) c

pub looking_room : (classes : Class → Bool) (IsSo : List Item → Type 0) (s : State) (es : List Entry) (old now : SeenFound) (at : Option ℕ) (q : ℕ) (i : Item) → MayLookAt classes s es old → IsLooking classes IsSo s es old now at →
    at ≡ Some q → item_in q es ≡ Some i → HasPlace now
looking_room classes IsSo s es old now at q i m l e got =
    has_place (Among m.done (slots_of l.along.front)) s es now q i m.apart got (unseen_here (delivers classes) es at q i m.apart l.along e got (λ d. m.done (class_of d)) (λ d t. m.unseen (class_of d) t)) (l.finds m.done m.unseen m.found)
    (subst (λ n. length es ≤ n) (sym l.room) m.room)

pub line_room : (test : Delivery → Bool) (IsSo : List Item → Type 0) (s : State) (es : List Entry) (old now : SeenFound) (at : Option ℕ) (q : ℕ) (i : Item) → MayLookAlong test s es old → IsOnLine test IsSo s es old now at →
    at ≡ Some q → item_in q es ≡ Some i → HasPlace now
line_room test IsSo s es old now at q i m l e got =
    has_place (AmongTest m.done (slots_of l.along.front)) s es now q i m.apart got (unseen_here test es at q i m.apart l.along e got m.done m.unseen) (l.finds m.done m.unseen m.found) (subst (λ n. length es ≤ n) (sym l.room) m.room)

pub made_room : (front : List ℕ) (q : ℕ) (s : State) (es : List Entry) (old now : SeenFound) → MayLookAt is_always s es old → LooksMade front es old now → Lacks q front → (i : Item) → item_in q es ≡ Some i → waits_for_nothing i.delivery ≡ true →
    HasPlace now
made_room front q s es old now m l lacks i there a = has_place (Made m.done front) s es now q i m.apart there absent (l.finds s m.done m.unseen m.found) (subst (λ n. length es ≤ n) (sym l.room) m.room)
  where
    absent : Made m.done front (q, i) → ⊥
    absent (inl t) = true≢false (sym t ∙ m.unseen (class_of i.delivery) a)
    absent (inr c) = absent_of_lacks q front lacks c.0

-- there is room for those that wait for a moment, while nobody is found
pub waiting_fit : (es : List Entry) (gained : List (ℕ × ℕ)) (room capacity : ℕ) → gained ≡ [] → length es ≤ room → room ≤ capacity → length gained + count_by is_waiting (flat es) ≤ capacity
waiting_fit es gained room capacity none few fits = let n = ap length none in let most = count_few is_waiting es in omega (arith, n, most, few, fits)

-- ---- the hub has room for each item

-- where there are fewer
pub fewer_fit : (test : Entry → Bool) (es now : List Entry) (room : ℕ) → now ≡ filter test es → length es ≤ room → length now ≤ room
fewer_fit test es now room e few = let n = ap length e in let m = length-filter test es in let most = count_by-le-length test es in omega (arith, n, m, most, few)

-- where there are as many
pub changed_fit : (change : Entry → Entry) (es now : List Entry) (room : ℕ) → now ≡ map change es → length es ≤ room → length now ≤ room
changed_fit change es now room e few = let n = ap length e in let m = length-map es change in omega (arith, n, m, few)

-- ---- one look after another

-- fewer classes
pub may_part : (a b : Class → Bool) (s : State) (es : List Entry) (x : SeenFound) → ((c : Class) → IsTrue (a c) → IsTrue (b c)) → MayLookAt b s es x → MayLookAt a s es x
may_part a b s es x part m = record { apart = m.apart; done = m.done; unseen = λ c t. m.unseen c (part c t); found = m.found; room = m.room }

-- those that are left, when others were looked at
may_then : (a b c : Class → Bool) (s : State) (es : List Entry) (x y : SeenFound) → ((k : Class) → (a k || b k) ≡ c k) → ((k : Class) → IsTrue (b k) → a k ≡ false) → MayLookAt c s es x → LooksAt a s es x y → MayLookAt b s es y
may_then a b c s es x y is apart m f = record {
  apart = m.apart;
  done = either m.done a;
  unseen = λ k t. or_none (m.done k) (a k) (m.unseen k (sym (is k) ∙ right k t)) (apart k t);
  found = f.finds m.done (λ k t. m.unseen k (sym (is k) ∙ or_left (a k) (b k) t)) m.found;
  room = subst (λ n. length es ≤ n) (sym f.room) m.room;
}
  where
    or_true : (p : Bool) → (p || true) ≡ true
    or_true true = refl
    or_true false = refl

    right : (k : Class) → IsTrue (b k) → (a k || b k) ≡ true
    right k t = ap (λ p. a k || p) t ∙ or_true (a k)

any_front : (p : ℕ → Bool) (xs ys : List ℕ) → list_any p xs ≡ true → list_any p (xs ++ ys) ≡ true
any_front p [] ys e = absurd (true≢false (sym e))
any_front p (x ∷ xs) ys e = by (p x) e (any_front p xs ys)
  where
    by : (b : Bool) → (b || list_any p xs) ≡ true → (list_any p xs ≡ true → list_any p (xs ++ ys) ≡ true) → (b || list_any p (xs ++ ys)) ≡ true
    by true f more = refl
    by false f more = more f

ends_front : (xs ys : List ℕ) (c : Class) → IsTrue (for_one_of xs c) → IsTrue (for_one_of (xs ++ ys) c)
ends_front xs ys (Class.OfEnds targets need) t = by (target_of targets) t
  where
    by : (target : Target) → is_one_of xs target ≡ true → is_one_of (xs ++ ys) target ≡ true
    by (Target.One n) e = any_front (λ m. n == m) xs ys e
    by Target.Several e = absurd (true≢false (sym e))
ends_front xs ys Class.Always t = absurd (true≢false (sym t))
ends_front xs ys (Class.AtMoment deadline) t = absurd (true≢false (sym t))
ends_front xs ys (Class.AtObject o) t = absurd (true≢false (sym t))

objects_front : (xs ys : List ℕ) (c : Class) → IsTrue (at_objects xs c) → IsTrue (at_objects (xs ++ ys) c)
objects_front xs ys (Class.AtObject o) t = any_front (λ p. o == p) xs ys t
objects_front xs ys Class.Always t = absurd (true≢false (sym t))
objects_front xs ys (Class.AtMoment deadline) t = absurd (true≢false (sym t))
objects_front xs ys (Class.OfEnds targets need) t = absurd (true≢false (sym t))

-- the next of these greenlets and jobs
pub may_end : (ends : List ℕ) (k : ℕ) (s : State) (es : List Entry) (x y : SeenFound) → k < length ends → Differ ends → MayLookAt (for_one_of ends) s es x → LooksAt (for_one_of (take k ends)) s es x y →
    MayLookAt (is_for (Target.One (get_or ends k 0))) s es y
may_end ends k s es x y l differ m f =
    let front = take k ends in
    let n = get_or ends k 0 in
    may_then (for_one_of front) (is_for (Target.One n)) (for_one_of (front ++ n ∷ [])) s es x y (ends_more front n) (ends_apart front n (not_before ends k 0 l differ))
    (may_part (for_one_of (front ++ n ∷ [])) (for_one_of ends) s es x
    (λ c t. subst (λ ns. IsTrue (for_one_of ns c)) (take-append-drop (k + 1) ends) (ends_front (take (k + 1) ends) (drop (k + 1) ends) c (subst (λ ns. IsTrue (for_one_of ns c)) (sym (take_more ends k 0 l)) t))) m) f

-- the next of these objects
pub may_object : (objects : List ℕ) (k : ℕ) (s : State) (es : List Entry) (x y : SeenFound) → k < length objects → Differ objects → MayLookAt (at_objects objects) s es x → LooksAt (at_objects (take k objects)) s es x y →
    MayLookAt (is_at (get_or objects k 0)) s es y
may_object objects k s es x y l differ m f =
    let front = take k objects in
    let o = get_or objects k 0 in
    may_then (at_objects front) (is_at o) (at_objects (front ++ o ∷ [])) s es x y (objects_more front o) (objects_apart front o (not_before objects k 0 l differ))
    (may_part (at_objects (front ++ o ∷ [])) (at_objects objects) s es x
    (λ c t. subst (λ os. IsTrue (at_objects os c)) (take-append-drop (k + 1) objects) (objects_front (take (k + 1) objects) (drop (k + 1) objects) c (subst (λ os. IsTrue (at_objects os c)) (sym (take_more objects k 0 l)) t))) m) f

-- ---- all that was touched, in turn

pub may_always : (t : SeenTouched) (s : State) (es : List Entry) (x : SeenFound) → MayLookAt (touched_now t) s es x → MayLookAt is_always s es x
may_always t s es x m =
    let a = either is_always (for_several t.several) in
    let b = either a (for_one_of t.ends) in
    may_part is_always (touched_now t) s es x (λ c u. or_left (b c) (at_objects t.objects c) (or_left (a c) (for_one_of t.ends c) (or_left (is_always c) (for_several t.several c) u))) m

pub may_several : (t : SeenTouched) (s : State) (es : List Entry) (x0 x1 : SeenFound) → MayLookAt (touched_now t) s es x0 → LooksAt is_always s es x0 x1 → MayLookAt (for_several t.several) s es x1
may_several t s es x0 x1 m always =
    let a = either is_always (for_several t.several) in
    let b = either a (for_one_of t.ends) in
    may_then is_always (for_several t.several) a s es x0 x1 (λ c. refl) (several_apart t.several) (may_part a (touched_now t) s es x0 (λ c u. or_left (b c) (at_objects t.objects c) (or_left (a c) (for_one_of t.ends c) u)) m) always

pub may_ends : (t : SeenTouched) (s : State) (es : List Entry) (x0 x1 x2 : SeenFound) → MayLookAt (touched_now t) s es x0 → LooksAt is_always s es x0 x1 → LooksAt (for_several t.several) s es x1 x2 → MayLookAt (for_one_of t.ends) s es x2
may_ends t s es x0 x1 x2 m always several =
    let a = either is_always (for_several t.several) in
    let b = either a (for_one_of t.ends) in
    may_then a (for_one_of t.ends) b s es x0 x2 (λ c. refl) (ones_apart t.several t.ends) (may_part b (touched_now t) s es x0 (λ c u. or_left (b c) (at_objects t.objects c) u) m)
    (looks_both is_always (for_several t.several) a s es x0 x1 x2 (λ c. refl) (several_apart t.several) always several)

pub may_objects : (t : SeenTouched) (s : State) (es : List Entry) (x0 x1 x2 x3 : SeenFound) → MayLookAt (touched_now t) s es x0 → LooksAt is_always s es x0 x1 → LooksAt (for_several t.several) s es x1 x2 → LooksAt (for_one_of t.ends) s es x2 x3 →
    MayLookAt (at_objects t.objects) s es x3
may_objects t s es x0 x1 x2 x3 m always several ends =
    let a = either is_always (for_several t.several) in
    let b = either a (for_one_of t.ends) in
    may_then b (at_objects t.objects) (touched_now t) s es x0 x3 (λ c. refl) (objects_apart_all t.several t.ends t.objects) m
    (looks_both a (for_one_of t.ends) b s es x0 x2 x3 (λ c. refl) (ones_apart t.several t.ends) (looks_both is_always (for_several t.several) a s es x0 x1 x2 (λ c. refl) (several_apart t.several) always several) ends)

-- ---- all at an object, line by line

at_of_kind : (kind : WaitKind) (o : ℕ) (w : Waiting) → test_of kind o w ≡ true → is_at o (class_of_wait w) ≡ true
at_of_kind WaitKind.Acquire o (Waiting.Acquire p) e = e
at_of_kind WaitKind.Lock o (Waiting.Lock p) e = e
at_of_kind WaitKind.Put o (Waiting.Put p x) e = e
at_of_kind WaitKind.Take o (Waiting.Take p) e = e
at_of_kind WaitKind.Place o (Waiting.Place p g xs) e = e
at_of_kind WaitKind.Place o (Waiting.MapPlace p g xs made) e = e
at_of_kind WaitKind.Slot o (Waiting.Slot p job takes) e = e
at_of_kind WaitKind.TakeOffer o (Waiting.TakeOffer p) e = e
at_of_kind kind o w e = absurd (true≢false (sym e))

at_line : (kind : WaitKind) (o : ℕ) (d : Delivery) → waits_in_line kind o d ≡ true → is_at o (class_of d) ≡ true
at_line kind o (Delivery.Wake g w) t = at_of_kind kind o w t
at_line kind o d t = absurd (true≢false (sym t))

at_columns : (o n : ℕ) (d : Delivery) → n ≤ 8 → in_columns o n d ≡ true → is_at o (class_of d) ≡ true
at_columns o n d l t = sym (all_columns o d) ∙ by (waits_key d) t
  where
    further : (k : ℕ) → nat_lt k (object_place o n) ≡ true → nat_lt k (object_place o 8) ≡ true
    further k u = grind (arith, nat_tests)

    by : (key : Option ℕ) → is_before o n key ≡ true → is_before o 8 key ≡ true
    by None u = u
    by (Some k) u = let p = and_parts (nat_le (object_place o 0) k) (nat_lt k (object_place o n)) u in rw (p.0, further k p.1) refl

few_lines : (kind : WaitKind) → line_column kind ≤ 8
few_lines WaitKind.Acquire = omega arith
few_lines WaitKind.Lock = omega arith
few_lines WaitKind.Put = omega arith
few_lines WaitKind.Take = omega arith
few_lines WaitKind.Place = omega arith
few_lines WaitKind.Slot = omega arith
few_lines WaitKind.TakeOffer = omega arith

-- the next column, when those before it were looked at
may_column : (o n : ℕ) (test : Delivery → Bool) (s : State) (es : List Entry) (x y : SeenFound) → n ≤ 8 → ((d : Delivery) → IsTrue (test d) → is_at o (class_of d) ≡ true) → ((d : Delivery) → IsTrue (test d) → in_columns o n d ≡ false) →
    MayLookAt (is_at o) s es x → LooksAlong (in_columns o n) s es x y → MayLookAlong test s es y
may_column o n test s es x y few here apart m f = record {
  apart = m.apart;
  done = λ d. m.done (class_of d) || in_columns o n d;
  unseen = λ d t. or_none (m.done (class_of d)) (in_columns o n d) (m.unseen (class_of d) (here d t)) (apart d t);
  found = f.finds (λ d. m.done (class_of d)) (λ d t. m.unseen (class_of d) (at_columns o n d few t)) m.found;
  room = subst (λ k. length es ≤ k) (sym f.room) m.room;
}

pub may_line : (kind : WaitKind) (o : ℕ) (s : State) (es : List Entry) (x y : SeenFound) → MayLookAt (is_at o) s es x → LooksAlong (in_columns o (line_column kind)) s es x y → MayLookAlong (waits_in_line kind o) s es y
may_line kind o s es x y = may_column o (line_column kind) (waits_in_line kind o) s es x y (few_lines kind) (at_line kind o) (λ d t. columns_apart o (line_column kind) d (line_key kind o d ∙ t))

pub may_others : (o : ℕ) (s : State) (es : List Entry) (x y : SeenFound) → MayLookAt (is_at o) s es x → LooksAlong (in_columns o 7) s es x y → MayLookAlong (waits_in_none o) s es y
may_others o s es x y = may_column o 7 (waits_in_none o) s es x y (omega arith) (λ d t. (and_parts (waits_at o d) (is_none (line_of_delivery d)) t).0) (λ d t. columns_apart o 7 d (none_key o d ∙ t))
