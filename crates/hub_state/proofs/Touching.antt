-- The hub stays up to date: each step keeps it so, where what the step touches is touched.
use Rattle.std.proofs.Common.{◌≡◌, refl, sym, ◌∙◌, ap, subst, ℕ, zero, suc, ◌+◌, ◌<◌, ◌≤◌, Bool, true, false, not, List, [], ◌∷◌, ◌++◌, length, get_or, ◌⊎◌, inl, inr, arith}
use Rattle.std.proofs.lemmas.Bool.{cases_eq, cases_lt, eq-eqb, eqb-true, le-ltb, lt-ltb, ne_eqb, or_cases, or_left, or_right, true≢false}
use Rattle.std.proofs.lemmas.List.Elements.{All-from_recursion}
use Rattle.std.specs.List.{All, list_any}
use Rattle.std.specs.Prelude.{◌==◌, cond, IfSome, IsTrue, Option, Some, None, nat_lt, slice_get}
use Rattle.gv_values.specs.declared.value.Whom.{Whom}
use Rattle.trace_text.specs.declared.line.Line.{Line}
use Rattle.machine.specs.declared.items.Delivery.{Delivery}
use Rattle.machine.specs.declared.items.Item.{Item}
use Rattle.machine.specs.declared.state.Object.{Object}
use Rattle.machine.specs.declared.state.Post.{Post}
use Rattle.machine.specs.State.{State}
use Rattle.machine.specs.Holds.{delivery_holds, holds}
use Rattle.machine.specs.Items.{add_item}
use Rattle.machine.specs.Questions.{is_numbered}
use Rattle.machine_settling.specs.Classes.{Class, class_of, is_among as is_target, is_at, is_whom}
use Rattle.machine_settling.specs.Numbers.{IsAscending}
use Rattle.machine_settling.specs.Steps.{IsOf, Step, after, either, has_member, nothing, the_ends, the_objects, touches}
use Rattle.machine_settling.proofs.Agreements.{Agrees, adds-nothing, agreement-weakens, agrees-after, in_last, since_below}
use Rattle.machine_settling.proofs.Fronts.{fronts_stepped}
use Rattle.machine_settling.proofs.Members.{In, contains_of_in, in_of_Contains}
use Rattle.machine_settling.proofs.Parts.{all_by, at_in}
use Rattle.hub_objects.specs.Memberships.{IsMember, is_outside}
use Rattle.hub_objects.specs.declared.memberships.Membership.{Membership}
use Rattle.number_set.specs.Sets.{inserted, is_among}
use Rattle.held_items.specs.Entries.{Entry}
use Rattle.held_items.specs.Waits.{number_of, target_of, target_of_class}
use Rattle.held_items.specs.declared.waits.Target.{Target}
use Rattle.hub_state.specs.Touched.{HasCome, HasMark, HasPlaces, HasTarget, HasTouched, IsMade, IsPast, IsPending, IsRoomier, IsUpToDate, SeenTouched, awaited, is_touched, reopened, with_end, with_made, with_target, with_touched, with_waited}

-- ---- numbers that were put in

in_more : {X : Type 0} (xs ys : List X) (x : X) → In x xs → In x (xs ++ ys)
in_more [] ys x h = absurd h
in_more (z ∷ xs) ys x (inl e) = inl e
in_more (z ∷ xs) ys x (inr h) = inr (in_more xs ys x h)

in_end : {X : Type 0} (xs : List X) (x : X) → In x (xs ++ x ∷ [])
in_end [] x = inl refl
in_end (z ∷ xs) x = inr (in_end xs x)

in_among : (k : ℕ) (ks : List ℕ) → is_among k ks ≡ true → In k ks
in_among k [] h = absurd (true≢false (sym h))
in_among k (j ∷ ks) h = by (or_cases (j == k) (is_among k ks) h) (in_among k ks)
  where
    by : ((j == k) ≡ true) ⊎ (is_among k ks ≡ true) → (is_among k ks ≡ true → In k ks) → In k (j ∷ ks)
    by (inl e) rest = inl (eqb-true j k e)
    by (inr m) rest = inr (rest m)

pub in_still : (j k : ℕ) (ks : List ℕ) → In j ks → In j (inserted k ks)
in_still j k ks h = by (is_among k ks)
  where
    by : (b : Bool) → In j (cond b ks (ks ++ k ∷ []))
    by true = h
    by false = in_more ks (k ∷ []) j h

pub in_inserted : (k : ℕ) (ks : List ℕ) → In k (inserted k ks)
in_inserted k ks = by (is_among k ks) refl
  where
    by : (b : Bool) → is_among k ks ≡ b → In k (cond b ks (ks ++ k ∷ []))
    by true e = in_among k ks e
    by false e = in_end ks k

listed : (o : ℕ) (ks : List ℕ) → In o ks → list_any (λ p. o == p) ks ≡ true
listed o [] h = absurd h
listed o (k ∷ ks) (inl e) = or_left (o == k) (list_any (λ p. o == p) ks) (eq-eqb o k (sym e))
listed o (k ∷ ks) (inr h) = or_right (o == k) (list_any (λ p. o == p) ks) (listed o ks h)

in_listed : (o : ℕ) (ks : List ℕ) → list_any (λ p. o == p) ks ≡ true → In o ks
in_listed o [] h = absurd (true≢false (sym h))
in_listed o (k ∷ ks) h = by (or_cases (o == k) (list_any (λ p. o == p) ks) h) (in_listed o ks)
  where
    by : ((o == k) ≡ true) ⊎ (list_any (λ p. o == p) ks ≡ true) → (list_any (λ p. o == p) ks ≡ true → In o ks) → In o (k ∷ ks)
    by (inl e) rest = inl (sym (eqb-true o k e))
    by (inr m) rest = inr (rest m)

-- ---- what was touched more

-- what was touched is touched still, and has its place still
pub record Grows (t u : SeenTouched) : Type 0 where
  pub classes : (c : Class) → IsTrue (reopened t c) → IsTrue (reopened u c)
  pub made : (q : ℕ) → In q t.made → In q u.made
  pub targets : t.targets ≤ u.targets
  pub rooms : t.rooms ≤ u.rooms

pub grows_same : (t : SeenTouched) → Grows t t
grows_same t = record { classes = λ c h. h; made = λ q h. h; targets = omega arith; rooms = omega arith }

pub grows_on : (t u v : SeenTouched) → Grows t u → Grows u v → Grows t v
grows_on t u v g h = record {
  classes = λ c k. h.classes c (g.classes c k);
  made = λ q k. h.made q (g.made q k);
  targets = let a = g.targets in let b = h.targets in omega (arith, a, b);
  rooms = let a = g.rooms in let b = h.rooms in omega (arith, a, b);
}

-- other targets are touched, and nothing else
grows_by : (several : Bool) (ends : List ℕ) (t : SeenTouched) → ((target : Target) → is_touched t target ≡ true → is_touched (record t { several = several; ends = ends }) target ≡ true) → Grows t (record t { several = several; ends = ends })
grows_by several ends t f = record { classes = by; made = λ q h. h; targets = omega arith; rooms = omega arith }
  where
    by : (c : Class) → IsTrue (reopened t c) → IsTrue (reopened (record t { several = several; ends = ends }) c)
    by Class.Always h = h
    by (Class.AtMoment deadline) h = h
    by (Class.OfEnds targets need) h = f (target_of targets) h
    by (Class.AtObject o) h = h

pub grows_target : (target : Option Target) (t : SeenTouched) → Grows t (with_target target t)
grows_target None t = grows_same t
grows_target (Some Target.Several) t = grows_by true t.ends t several
  where
    several : (target : Target) → is_touched t target ≡ true → is_touched (record t { several = true }) target ≡ true
    several Target.Several h = refl
    several (Target.One n) h = h
grows_target (Some (Target.One n)) t = by (nat_lt n t.targets)
  where
    more : (target : Target) → is_touched t target ≡ true → is_touched (record t { ends = inserted n t.ends }) target ≡ true
    more Target.Several h = h
    more (Target.One m) h = listed m (inserted n t.ends) (in_still m n t.ends (in_listed m t.ends h))

    by : (b : Bool) → Grows t (cond b (record t { ends = inserted n t.ends }) t)
    by true = grows_by t.several (inserted n t.ends) t more
    by false = grows_same t

pub grows_end : (ended : Bool) (n : ℕ) (t : SeenTouched) → Grows t (with_end ended n t)
grows_end false n t = grows_same t
grows_end true n t =
    let u = with_target (Some Target.Several) t in
    grows_on t u (with_target (Some (Target.One n)) u) (grows_target (Some Target.Several) t) (grows_target (Some (Target.One n)) u)

pub grows_touched : (object : Option ℕ) (t : SeenTouched) → Grows t (with_touched object t)
grows_touched None t = grows_same t
grows_touched (Some o) t = by (nat_lt o t.rooms)
  where
    more : (c : Class) → IsTrue (reopened t c) → IsTrue (reopened (record t { objects = inserted o t.objects }) c)
    more Class.Always h = h
    more (Class.AtMoment deadline) h = h
    more (Class.OfEnds targets need) h = h
    more (Class.AtObject p) h = listed p (inserted o t.objects) (in_still p o t.objects (in_listed p t.objects h))

    by : (b : Bool) → Grows t (cond b (record t { objects = inserted o t.objects }) t)
    by true = record { classes = more; made = λ q h. h; targets = omega arith; rooms = omega arith }
    by false = grows_same t

pub grows_waited : (holds : Bool) (c : Class) (t : SeenTouched) → Grows t (with_waited holds c t)
grows_waited true c t = let u = with_target (target_of_class c) t in grows_on t u (with_touched (awaited c) u) (grows_target (target_of_class c) t) (grows_touched (awaited c) u)
grows_waited false c t = grows_same t

-- what is touched now is said by an equation
pub grows_is : (t u v : SeenTouched) → u ≡ v → Grows t v → Grows t u
grows_is t u v e g = subst (Grows t) (sym e) g

pub grows_made : (q : ℕ) (t : SeenTouched) → Grows t (with_made q t)
grows_made q t = by (nat_lt q t.slots)
  where
    by : (b : Bool) → Grows t (cond b (record t { made = inserted q t.made }) t)
    by true = record { classes = λ c h. h; made = λ p h. in_still p q t.made h; targets = omega arith; rooms = omega arith }
    by false = grows_same t

-- what has a place is touched
pub reopens_at : (o : ℕ) (t : SeenTouched) (c : Class) → IfSome (awaited c) (λ p. p < t.rooms) → is_at o c ≡ true → IsTrue (reopened (with_touched (Some o) t) c)
reopens_at o t Class.Always m e = refl
reopens_at o t (Class.AtMoment deadline) m e = refl
reopens_at o t (Class.OfEnds targets need) m e = absurd (true≢false (sym e))
reopens_at o t (Class.AtObject p) m e = by (nat_lt o t.rooms) (lt-ltb o t.rooms (let same = eqb-true o p e in omega (arith, m, same)))
  where
    by : (b : Bool) → b ≡ true → IsTrue (reopened (cond b (record t { objects = inserted o t.objects }) t) (Class.AtObject p))
    by true u = listed p (inserted o t.objects) (subst (λ k. In k (inserted o t.objects)) (eqb-true o p e) (in_inserted o t.objects))
    by false u = absurd (true≢false (sym u))

-- so is the object of an item that has a mark
pub reopens_awaited : (d : Class) (t : SeenTouched) (o : ℕ) → IfSome (awaited d) (λ p. p < t.rooms) → is_at o d ≡ true → IsTrue (reopened (with_touched (awaited d) t) (Class.AtObject o))
reopens_awaited (Class.AtObject p) t o m e =
    let same = eqb-true o p e in
    subst (λ k. IsTrue (reopened (with_touched (Some p) t) (Class.AtObject k))) (sym same) (reopens_at p t (Class.AtObject p) m (eq-eqb p p refl))
reopens_awaited Class.Always t o m e = absurd (true≢false (sym e))
reopens_awaited (Class.AtMoment deadline) t o m e = absurd (true≢false (sym e))
reopens_awaited (Class.OfEnds targets need) t o m e = absurd (true≢false (sym e))

-- so is a target
target_touched : (target : Target) (t : SeenTouched) → HasTarget t.targets (Some target) → is_touched (with_target (Some target) t) target ≡ true
target_touched Target.Several t m = refl
target_touched (Target.One n) t m = let yes = lt-ltb n t.targets m in rw yes (listed n (inserted n t.ends) (in_inserted n t.ends))

same_number : (a b : Whom) → is_whom a b ≡ true → number_of a ≡ number_of b
same_number (Whom.Greenlet m) (Whom.Greenlet n) e = eqb-true m n e
same_number (Whom.Job m) (Whom.Job n) e = eqb-true m n e
same_number (Whom.Greenlet m) (Whom.Job n) e = absurd (true≢false (sym e))
same_number (Whom.Job m) (Whom.Greenlet n) e = absurd (true≢false (sym e))

-- where one of the targets ends, those who wait for them are touched
end_touched : (whom : Whom) (t : SeenTouched) (targets : List Whom) → HasTarget t.targets (Some (target_of targets)) → is_target whom targets ≡ true → is_touched (with_end true (number_of whom) t) (target_of targets) ≡ true
end_touched whom t [] m e = absurd (true≢false (sym e))
end_touched whom t (w ∷ []) m e = by (or_cases (is_whom whom w) false e)
  where
    by : (is_whom whom w ≡ true) ⊎ (false ≡ true) → is_touched (with_end true (number_of whom) t) (Target.One (number_of w)) ≡ true
    by (inl q) =
        let same = same_number whom w q in
        subst (λ n. is_touched (with_end true n t) (Target.One (number_of w)) ≡ true) (sym same) (target_touched (Target.One (number_of w)) (with_target (Some Target.Several) t) m)
    by (inr q) = absurd (true≢false (sym q))
end_touched whom t (w ∷ v ∷ rest) m e = by (nat_lt (number_of whom) t.targets)
  where
    u : SeenTouched
    u = with_target (Some Target.Several) t

    by : (b : Bool) → is_touched (cond b (record u { ends = inserted (number_of whom) u.ends }) u) Target.Several ≡ true
    by true = refl
    by false = refl

pub reopens_end : (x b : Bool) (whom : Whom) (t : SeenTouched) → (x ≡ true → b ≡ true) → (c : Class) → HasPlaces t c → cond x (the_ends whom) nothing c ≡ true → IsTrue (reopened (with_end b (number_of whom) t) c)
reopens_end false b whom t f c m e = absurd (true≢false (sym e))
reopens_end true false whom t f c m e = absurd (true≢false (sym (f refl)))
reopens_end true true whom t f Class.Always m e = refl
reopens_end true true whom t f (Class.AtMoment deadline) m e = refl
reopens_end true true whom t f (Class.OfEnds targets need) m e = end_touched whom t targets m.1 e
reopens_end true true whom t f (Class.AtObject o) m e = absurd (true≢false (sym e))

-- and the class of an item that is made, where it holds
reopens_waited : (c : Class) (t : SeenTouched) → HasPlaces t c → IsTrue (reopened (with_waited true c t) c)
reopens_waited Class.Always t m = refl
reopens_waited (Class.AtMoment deadline) t m = refl
reopens_waited (Class.OfEnds targets need) t m = target_touched (target_of targets) t m.1
reopens_waited (Class.AtObject o) t m = reopens_at o t (Class.AtObject o) m.0 (eq-eqb o o refl)

pub waited_fails : (holds : Bool) (c : Class) (t w : SeenTouched) → HasPlaces t c → Grows (with_waited holds c t) w → reopened w c ≡ false → holds ≡ false
waited_fails true c t w m g e = absurd (true≢false (sym (g.classes c (reopens_waited c t m)) ∙ e))
waited_fails false c t w m g e = refl

-- the slot that has a place is among those that were made
pub in_made : (q : ℕ) (t : SeenTouched) → q < t.slots → In q (with_made q t).made
in_made q t l = let yes = lt-ltb q t.slots l in rw yes (in_inserted q t.made)

-- ---- the objects that pass a test

pub touched_none : (test : Option Object → Bool) (objects : List Object) (t : SeenTouched) → HasTouched test objects 0 t t
touched_none test objects t = record { several = refl; ends = refl; made = refl; targets = refl; rooms = refl; still = λ o h. h; each = λ o l. absurd (omega (arith, l)) }

pub touched_more : (test : Option Object → Bool) (objects : List Object) (n : ℕ) (t u : SeenTouched) → HasTouched test objects n t u → HasTouched test objects (n + 1) t (with_touched (Some n) u)
touched_more test objects n t u h = by (cases_lt n u.rooms)
  where
    v : SeenTouched
    v = record u { objects = inserted n u.objects }

    here : n < u.rooms → with_touched (Some n) u ≡ v
    here l = let yes = lt-ltb n u.rooms l in rw yes refl

    past : u.rooms ≤ n → with_touched (Some n) u ≡ u
    past l = let no = le-ltb n u.rooms l in rw no refl

    more : (o : ℕ) → IsTrue (reopened u (Class.AtObject o)) → IsTrue (reopened v (Class.AtObject o))
    more o k = listed o (inserted n u.objects) (in_still o n u.objects (in_listed o u.objects k))

    new : (o : ℕ) → o < n + 1 → o < t.rooms → IsTrue (test (slice_get objects o)) → IsTrue (reopened v (Class.AtObject o))
    new o l m e = at (cases_lt o n)
      where
        at : (o < n) ⊎ (n ≤ o) → IsTrue (reopened v (Class.AtObject o))
        at (inl k) = more o (h.each o k m e)
        at (inr k) = let same : n ≡ o = omega (arith, l, k) in subst (λ p. IsTrue (reopened v (Class.AtObject p))) same (listed n (inserted n u.objects) (in_inserted n u.objects))

    old : u.rooms ≤ n → (o : ℕ) → o < n + 1 → o < t.rooms → IsTrue (test (slice_get objects o)) → IsTrue (reopened u (Class.AtObject o))
    old k o l m e = h.each o (let r = h.rooms in omega (arith, k, m, r)) m e

    by : (n < u.rooms) ⊎ (u.rooms ≤ n) → HasTouched test objects (n + 1) t (with_touched (Some n) u)
    by (inl l) = subst (HasTouched test objects (n + 1) t) (sym (here l)) (record { several = h.several; ends = h.ends; made = h.made; targets = h.targets; rooms = h.rooms; still = λ o k. more o (h.still o k); each = new })
    by (inr l) = subst (HasTouched test objects (n + 1) t) (sym (past l)) (record { several = h.several; ends = h.ends; made = h.made; targets = h.targets; rooms = h.rooms; still = h.still; each = old l })

pub touched_other : (test : Option Object → Bool) (objects : List Object) (n : ℕ) (d : Object) (t u : SeenTouched) → n < length objects → test (Some (get_or objects n d)) ≡ false → HasTouched test objects n t u →
    HasTouched test objects (n + 1) t u
touched_other test objects n d t u l e h = record { several = h.several; ends = h.ends; made = h.made; targets = h.targets; rooms = h.rooms; still = h.still; each = each }
  where
    there : (xs : List Object) (k : ℕ) → k < length xs → slice_get xs k ≡ Some (get_or xs k d)
    there [] k m = absurd (omega (arith, m))
    there (x ∷ xs) zero m = refl
    there (x ∷ xs) (suc k) m = there xs k (omega (arith, m))

    each : (o : ℕ) → o < n + 1 → o < t.rooms → IsTrue (test (slice_get objects o)) → IsTrue (reopened u (Class.AtObject o))
    each o k m p = at (cases_lt o n)
      where
        at : (o < n) ⊎ (n ≤ o) → IsTrue (reopened u (Class.AtObject o))
        at (inl q) = h.each o q m p
        at (inr q) =
            let same : o ≡ n = omega (arith, k, q) in
            absurd (true≢false (sym (rw same at p) ∙ ap test (there objects n l) ∙ e))

-- an object is touched if it passes
pub touched_if : (test : Option Object → Bool) (objects : List Object) (n : ℕ) (d : Object) (t u v : SeenTouched) (b : Bool) → n < length objects → b ≡ test (Some (get_or objects n d)) →
    v ≡ with_touched (cond b (Some n) None) u → HasTouched test objects n t u → HasTouched test objects (n + 1) t v
touched_if test objects n d t u v true l e is h = subst (HasTouched test objects (n + 1) t) (sym is) (touched_more test objects n t u h)
touched_if test objects n d t u v false l e is h = subst (HasTouched test objects (n + 1) t) (sym is) (touched_other test objects n d t u l (sym e) h)

-- who may be a member nowhere
pub touched_nowhere : (g : ℕ) (m : Membership) (objects : List Object) (t : SeenTouched) → m ≡ Membership.Nowhere → IsMember g m objects → HasTouched (has_member g) objects (length objects) t t
touched_nowhere g m objects t e none = record {
  several = refl;
  ends = refl;
  made = refl;
  targets = refl;
  rooms = refl;
  still = λ o h. h;
  each = λ o l r h. absurd (true≢false (sym h ∙ none o (ap (is_outside o) e)));
}

-- who may be a member of one object alone, which is touched
pub touched_there : (g p : ℕ) (m : Membership) (objects : List Object) (t u : SeenTouched) → m ≡ Membership.At p → IsMember g m objects → u ≡ with_touched (Some p) t → HasTouched (has_member g) objects (length objects) t u
touched_there g p m objects t u e none is = subst (HasTouched (has_member g) objects (length objects) t) (sym is) (by (cases_lt p t.rooms))
  where
    v : SeenTouched
    v = record t { objects = inserted p t.objects }

    here : p < t.rooms → with_touched (Some p) t ≡ v
    here l = let yes = lt-ltb p t.rooms l in rw yes refl

    past : t.rooms ≤ p → with_touched (Some p) t ≡ t
    past l = let no = le-ltb p t.rooms l in rw no refl

    -- no other has the member
    other : (o : ℕ) → (o ≡ p → ⊥) → IsTrue (has_member g (slice_get objects o)) → ⊥
    other o n h = true≢false (sym h ∙ none o (ap (is_outside o) e ∙ ap not (ne_eqb o p n)))

    by : (p < t.rooms) ⊎ (t.rooms ≤ p) → HasTouched (has_member g) objects (length objects) t (with_touched (Some p) t)
    by (inl l) = subst (HasTouched (has_member g) objects (length objects) t) (sym (here l)) (record {
      several = refl;
      ends = refl;
      made = refl;
      targets = refl;
      rooms = refl;
      still = λ o k. listed o (inserted p t.objects) (in_still o p t.objects (in_listed o t.objects k));
      each = λ o k r h. at o h (cases_eq o p);
    })
      where
        at : (o : ℕ) → IsTrue (has_member g (slice_get objects o)) → (o ≡ p) ⊎ (o ≡ p → ⊥) → IsTrue (reopened v (Class.AtObject o))
        at o h (inl s) = listed o (inserted p t.objects) (subst (λ k. In k (inserted p t.objects)) (sym s) (in_inserted p t.objects))
        at o h (inr n) = absurd (other o n h)
    by (inr l) = subst (HasTouched (has_member g) objects (length objects) t) (sym (past l)) (record {
      several = refl;
      ends = refl;
      made = refl;
      targets = refl;
      rooms = refl;
      still = λ o k. k;
      each = λ o k r h. absurd (other o (λ s. omega (arith, s, l, r)) h);
    })

-- all that pass it are touched
pub reopens_all : (test : Option Object → Bool) (objects : List Object) (t u : SeenTouched) → test None ≡ false → HasTouched test objects (length objects) t u →
    (c : Class) → HasPlaces t c → IsTrue (the_objects test objects c) → IsTrue (reopened u c)
reopens_all test objects t u none h Class.Always m e = refl
reopens_all test objects t u none h (Class.AtMoment deadline) m e = refl
reopens_all test objects t u none h (Class.OfEnds targets need) m e = absurd (true≢false (sym e))
reopens_all test objects t u none h (Class.AtObject o) m e = by (cases_lt o (length objects))
  where
    past : (xs : List Object) (k : ℕ) → length xs ≤ k → slice_get xs k ≡ None
    past [] k l = refl
    past (x ∷ xs) zero l = absurd (omega (arith, l))
    past (x ∷ xs) (suc k) l = past xs k (omega (arith, l))

    by : (o < length objects) ⊎ (length objects ≤ o) → IsTrue (reopened u (Class.AtObject o))
    by (inl l) = h.each o l m.0 e
    by (inr l) = absurd (true≢false (sym e ∙ ap test (past objects o l) ∙ none))

same_touched : (t u : SeenTouched) → u.several ≡ t.several → u.ends ≡ t.ends → (target : Target) → is_touched t target ≡ true → is_touched u target ≡ true
same_touched t u several ends Target.Several k = several ∙ k
same_touched t u several ends (Target.One n) k = ap (list_any (λ m. n == m)) ends ∙ k

pub grows_all : (test : Option Object → Bool) (objects : List Object) (n : ℕ) (t u : SeenTouched) → HasTouched test objects n t u → Grows t u
grows_all test objects n t u h = record { classes = by; made = λ q k. subst (In q) (sym h.made) k; targets = let n = h.targets in omega (arith, n); rooms = let r = h.rooms in omega (arith, r) }
  where
    by : (c : Class) → IsTrue (reopened t c) → IsTrue (reopened u c)
    by Class.Always k = refl
    by (Class.AtMoment deadline) k = refl
    by (Class.OfEnds targets need) k = same_touched t u h.several h.ends (target_of targets) k
    by (Class.AtObject o) k = h.still o k

pub grows_roomier : (t u : SeenTouched) → IsRoomier t u → Grows t u
grows_roomier t u h = record { classes = by; made = λ q k. subst (In q) (sym h.made) k; targets = h.targets; rooms = h.rooms }
  where
    by : (c : Class) → IsTrue (reopened t c) → IsTrue (reopened u c)
    by Class.Always k = refl
    by (Class.AtMoment deadline) k = refl
    by (Class.OfEnds targets need) k = same_touched t u h.several h.ends (target_of targets) k
    by (Class.AtObject o) k = subst (λ ks. list_any (λ p. o == p) ks ≡ true) (sym h.objects) k

-- ---- the state

pub come_later : (m n : ℕ) (c : Class) → m ≤ n → HasCome m c → HasCome n c
come_later m n (Class.AtMoment deadline) l h = omega (arith, l, h)
come_later m n Class.Always l h = tt
come_later m n (Class.OfEnds targets need) l h = tt
come_later m n (Class.AtObject o) l h = tt

marked_more : (m n : ℕ) (object : Option ℕ) → m ≤ n → IfSome object (λ o. o < m) → IfSome object (λ o. o < n)
marked_more m n None l h = tt
marked_more m n (Some o) l h = omega (arith, l, h)

target_more : (m n : ℕ) (target : Option Target) → m ≤ n → HasTarget m target → HasTarget n target
target_more m n None l h = tt
target_more m n (Some Target.Several) l h = tt
target_more m n (Some (Target.One k)) l h = omega (arith, l, h)

-- what has places where fewer have them
pub places_more : (t u : SeenTouched) (c : Class) → t.rooms ≤ u.rooms → t.targets ≤ u.targets → HasPlaces t c → HasPlaces u c
places_more t u c rooms targets h = (marked_more t.rooms u.rooms (awaited c) rooms h.0, target_more t.targets u.targets (target_of_class c) targets h.1)

-- what all items have that are there
pub each_of : {X : Type 0} (P : X → Type 0) (xs : List X) → ((x : X) → In x xs → P x) → All P xs
each_of P xs f = All-from_recursion P xs (all_by P xs f)

not_then : (x y : Bool) → (x ≡ true → y ≡ true) → y ≡ false → x ≡ false
not_then true y f e = sym (f refl) ∙ e
not_then false y f e = refl

-- more is touched, and nothing is done
pub kept_grown : (t u : SeenTouched) (s : State) → Grows t u → IsUpToDate t s → IsUpToDate u s
kept_grown t u s g h = record {
  agrees = agreement-weakens (reopened t) (reopened u) s g.classes h.agrees;
  front = h.front;
  past = h.past;
  marked = each_of (HasMark u) s.items (λ i k. places_more t u (class_of i.delivery) g.rooms g.targets (at_in (HasMark t) s.items i h.marked k));
  rooms = let r = h.rooms in let l = g.rooms in omega (arith, r, l);
}

-- the state with other next numbers, lines and posts, which no condition reads
abbrev pub beside : ℕ → ℕ → List Line → List Post → State → State
beside next_ready next_since lines posts s = record s { next_ready = next_ready; next_since = next_since; lines = lines; posts = posts }

pub kept_beside : (m n : ℕ) (lines : List Line) (posts : List Post) (t : SeenTouched) (s : State) → IsUpToDate t s → IsUpToDate t (beside m n lines posts s)
kept_beside m n lines posts t s h = record { agrees = h.agrees; front = h.front; past = h.past; marked = h.marked; rooms = h.rooms }

-- a step that adds no item, where each class of some item is touched that the step touches
pub kept_after : (step : Step) (t u : SeenTouched) (s : State) → IsAscending s → IsOf step s → Grows t u →
    ((c : Class) → HasPlaces t c → IsTrue (touches step s c) → IsTrue (reopened u c)) → ((i : Item) → In i (after step s).items → In i s.items) →
    s.moment ≤ (after step s).moment → length (after step s).objects ≤ u.rooms → IsUpToDate t s → IsUpToDate u (after step s)
kept_after step t u s a m g covers within later rooms h = record {
  agrees = each_of (Agrees (reopened u) (holds (after step s))) (after step s).items agrees;
  front = fronts_stepped step s a h.front;
  past = each_of (IsPast (after step s).moment) (after step s).items (λ i k n. come_later s.moment (after step s).moment (class_of i.delivery) later (at_in (IsPast s.moment) s.items i h.past (within i k) n));
  marked = each_of (HasMark u) (after step s).items (λ i k. places_more t u (class_of i.delivery) g.rooms g.targets (mark i k));
  rooms = rooms;
}
  where
    mark : (i : Item) → In i (after step s).items → HasMark t i
    mark i k = at_in (HasMark t) s.items i h.marked (within i k)

    agrees : (i : Item) → In i (after step s).items → reopened u (class_of i.delivery) ≡ false → is_numbered i ≡ holds (after step s) i
    agrees i k e =
        let c = class_of i.delivery in
        at_in (Agrees (either (reopened t) (touches step s)) (holds (after step s))) (after step s).items i (agrees-after step (reopened t) s a m h.agrees) k
        (not_then (either (reopened t) (touches step s) c) (reopened u c) (λ r. by (or_cases (reopened t c) (touches step s c) r)) e)
      where
        by : (reopened t (class_of i.delivery) ≡ true) ⊎ (touches step s (class_of i.delivery) ≡ true) → reopened u (class_of i.delivery) ≡ true
        by (inl r) = g.classes (class_of i.delivery) r
        by (inr r) = covers (class_of i.delivery) (mark i k) r

-- an item is added, where what it waits for has a place, and which doesn't hold where its class is not touched
pub kept_added : (d : Delivery) (t u : SeenTouched) (s : State) → IsAscending s → Grows t u → (reopened u (class_of d) ≡ false → delivery_holds s s.next_since d ≡ false) →
    HasPlaces u (class_of d) → IsUpToDate t s → IsUpToDate u (add_item d s)
kept_added d t u s a g fails mark h = record {
  agrees = each_of (Agrees (reopened u) (holds (add_item d s))) (add_item d s).items (λ i k. agrees i (in_last s.items new i k));
  front = fronts_stepped (Step.Adds d) s a h.front;
  past = each_of (IsPast s.moment) (add_item d s).items (λ i k. past i (in_last s.items new i k));
  marked = each_of (HasMark u) (add_item d s).items (λ i k. marked i (in_last s.items new i k));
  rooms = let r = h.rooms in let l = g.rooms in omega (arith, r, l);
}
  where
    new : Item
    new = record { since = s.next_since; delivery = d; ready = None }

    agrees : (i : Item) → In i s.items ⊎ (new ≡ i) → reopened u (class_of i.delivery) ≡ false → is_numbered i ≡ holds (add_item d s) i
    agrees i (inl k) e =
        let c = class_of i.delivery in
        let older = since_below 0 s.next_since s.items i a k in
        at_in (Agrees (reopened t) (holds s)) s.items i h.agrees k (not_then (reopened t c) (reopened u c) (g.classes c) e) ∙ sym (adds-nothing d s i (omega (arith, older)))
    agrees i (inr n) e =
        subst (λ (j : Item). reopened u (class_of j.delivery) ≡ false → is_numbered j ≡ holds (add_item d s) j) n (λ f. sym (adds-nothing d s new (omega arith) ∙ fails f)) e

    past : (i : Item) → In i s.items ⊎ (new ≡ i) → IsPast s.moment i
    past i (inl k) = at_in (IsPast s.moment) s.items i h.past k
    past i (inr e) = λ n. absurd (true≢false (sym n ∙ ap is_numbered (sym e)))

    marked : (i : Item) → In i s.items ⊎ (new ≡ i) → HasMark u i
    marked i (inl k) = places_more t u (class_of i.delivery) g.rooms g.targets (at_in (HasMark t) s.items i h.marked k)
    marked i (inr e) = subst (HasMark u) e mark

-- ---- what waits for nothing

-- fewer items, of which more are known to be made
pub pending_fewer : (made more : List ℕ) (es fs : List Entry) → ((q : ℕ) → In q made → In q more) → ((e : Entry) → In e fs → In e es) → IsPending made es → IsPending more fs
pending_fewer made more es fs f w h = each_of (IsMade more) fs (λ e k a n. contains_of_in more e.0 (f e.0 (in_of_Contains made e.0 (at_in (IsMade made) es e h (w e k) a n))))

-- one more, that is known to be made
pub pending_more : (made more : List ℕ) (es : List Entry) (e : Entry) → ((q : ℕ) → In q made → In q more) → In e.0 more → IsPending made es → IsPending more (es ++ e ∷ [])
pending_more made more es e f m h = each_of (IsMade more) (es ++ e ∷ []) (λ x k. by x (in_last es e x k))
  where
    by : (x : Entry) → In x es ⊎ (e ≡ x) → IsMade more x
    by x (inl k) = λ a n. contains_of_in more x.0 (f x.0 (in_of_Contains made x.0 (at_in (IsMade made) es x h k a n)))
    by x (inr s) = λ a n. contains_of_in more x.0 (subst (λ y. In y.0 more) s m)
