-- Looks, one after another.
use Rattle.std.proofs.Common.{◌≡◌, refl, sym, ap, ◌∙◌, subst, ℕ, ◌≤◌, Bool, true, false, List, [], ◌∷◌, ◌++◌, length, arith}
use Rattle.std.proofs.lemmas.Bool.{eqb-true, ne_eqb, or_left, or_right, true≢false}
use Rattle.std.proofs.lemmas.Bool.Decides.{nat_tests}
use Rattle.std.specs.List.{list_any}
use Rattle.std.specs.Prelude.{◌==◌, ◌&&◌, ◌||◌, IsTrue}
use Rattle.item_places.specs.Items.{Differ, Lacks}
use Rattle.machine.specs.declared.items.Item.{Item}
use Rattle.machine.specs.Holds.{holds}
use Rattle.machine.specs.State.{State}
use Rattle.machine_settling.specs.Classes.{Class, class_of, is_at}
use Rattle.machine_settling.specs.Numbers.{loses_number, needs_number}
use Rattle.machine_settling.specs.Steps.{either, nothing}
use Rattle.held_items.specs.Entries.{Entry, slots_of}
use Rattle.held_items.specs.Waits.{is_for, same_target, target_of}
use Rattle.held_items.specs.declared.waits.Target.{Target}
use Rattle.hub_state.specs.Found.{AreFound, HasFound, IsOf, LooksAt, MayLookAt, SeenFound, at_objects, emptied, for_one_of, for_several, is_always, is_moment, is_one_of, touched_now}
use Rattle.hub_state.specs.Touched.{SeenTouched, is_touched, reopened}
use Rattle.hub_state.proofs.Classes.{is_place}
use Rattle.hub_state.proofs.Finding.{finds_as}

-- ---- which classes

pub or_none : (a b : Bool) → a ≡ false → b ≡ false → (a || b) ≡ false
or_none a b e f = ap (λ x. x || b) e ∙ f

pub or_three : (a b c : Bool) → ((a || b) || c) ≡ (a || (b || c))
or_three true b c = refl
or_three false b c = refl

-- the same classes were looked at
found_same : (f g : Class → Bool) (s : State) (es : List Entry) (x : SeenFound) → ((c : Class) → f c ≡ g c) → HasFound f s es x → HasFound g s es x
found_same f g s es x same h = finds_as (IsOf f) (IsOf g) s es x (λ q i t a. sym (same (class_of i.delivery)) ∙ a) (λ q i t a. same (class_of i.delivery) ∙ a) h

-- ---- one look after another

-- no class
pub looks_none : (s : State) (es : List Entry) (x : SeenFound) → LooksAt nothing s es x x
looks_none s es x = record { finds = λ done new h. found_same done (either done nothing) s es x (λ c. or_nothing (done c)) h; room = refl }
  where
    or_nothing : (a : Bool) → a ≡ (a || false)
    or_nothing true = refl
    or_nothing false = refl

-- these classes, and then those
pub looks_both : (a b c : Class → Bool) (s : State) (es : List Entry) (x y z : SeenFound) → ((k : Class) → (a k || b k) ≡ c k) → ((k : Class) → IsTrue (b k) → a k ≡ false) → LooksAt a s es x y → LooksAt b s es y z → LooksAt c s es x z
looks_both a b c s es x y z is apart f g = record {
  finds = λ done new h.
      found_same (either (either done a) b) (either done c) s es z (λ k. or_three (done k) (a k) (b k) ∙ ap (λ r. done k || r) (is k))
      (g.finds (either done a) (λ k t. or_none (done k) (a k) (new k (sym (is k) ∙ or_right (a k) (b k) t)) (apart k t)) (f.finds done (λ k t. new k (sym (is k) ∙ or_left (a k) (b k) t)) h));
  room = g.room ∙ f.room;
}

-- the same classes, otherwise said
pub looks_as : (a b : Class → Bool) (s : State) (es : List Entry) (x y : SeenFound) → ((k : Class) → a k ≡ b k) → LooksAt a s es x y → LooksAt b s es x y
looks_as a b s es x y same f = record {
  finds = λ done new h. found_same (either done a) (either done b) s es y (λ k. ap (λ r. done k || r) (same k)) (f.finds done (λ k t. new k (sym (same k) ∙ t)) h);
  room = f.room;
}

-- ---- one object after another

pub any_more : (o : ℕ) (front : List ℕ) (p : ℕ) → (list_any (λ r. o == r) front || (o == p)) ≡ list_any (λ r. o == r) (front ++ p ∷ [])
any_more o [] p = one (o == p)
  where
    one : (b : Bool) → (false || b) ≡ (b || false)
    one true = refl
    one false = refl
any_more o (r ∷ front) p = or_three (o == r) (list_any (λ x. o == x) front) (o == p) ∙ ap (λ b. (o == r) || b) (any_more o front p)

any_turned : (o : ℕ) (front : List ℕ) (p : ℕ) → (list_any (λ r. o == r) front || (p == o)) ≡ list_any (λ r. o == r) (front ++ p ∷ [])
any_turned o front p = ap (λ b. list_any (λ r. o == r) front || b) (turned p o) ∙ any_more o front p
  where
    turned : (m n : ℕ) → (m == n) ≡ (n == m)
    turned m n = grind (arith, nat_tests)

pub objects_more : (front : List ℕ) (p : ℕ) (c : Class) → (at_objects front c || is_at p c) ≡ at_objects (front ++ p ∷ []) c
objects_more front p (Class.AtObject o) = any_turned o front p
objects_more front p Class.Always = refl
objects_more front p (Class.AtMoment deadline) = refl
objects_more front p (Class.OfEnds targets need) = refl

lacks_any : (p : ℕ) (front : List ℕ) → Lacks p front → list_any (λ r. p == r) front ≡ false
lacks_any p [] l = refl
lacks_any p (r ∷ front) l = or_none (p == r) (list_any (λ x. p == x) front) (ne_eqb p r l.0) (lacks_any p front l.1)

pub objects_apart : (front : List ℕ) (p : ℕ) → Lacks p front → (c : Class) → IsTrue (is_at p c) → at_objects front c ≡ false
objects_apart front p l c t = ap (at_objects front) (is_place p c t) ∙ lacks_any p front l

pub no_objects : (c : Class) → nothing c ≡ at_objects [] c
no_objects (Class.AtObject o) = refl
no_objects Class.Always = refl
no_objects (Class.AtMoment deadline) = refl
no_objects (Class.OfEnds targets need) = refl

-- ---- one greenlet or job after another

pub ends_more : (front : List ℕ) (n : ℕ) (c : Class) → (for_one_of front c || is_for (Target.One n) c) ≡ for_one_of (front ++ n ∷ []) c
ends_more front n (Class.OfEnds targets need) = by (target_of targets)
  where
    by : (target : Target) → (is_one_of front target || same_target (Target.One n) target) ≡ is_one_of (front ++ n ∷ []) target
    by (Target.One m) = any_turned m front n
    by Target.Several = refl
ends_more front n Class.Always = refl
ends_more front n (Class.AtMoment deadline) = refl
ends_more front n (Class.AtObject o) = refl

pub ends_apart : (front : List ℕ) (n : ℕ) → Lacks n front → (c : Class) → IsTrue (is_for (Target.One n) c) → for_one_of front c ≡ false
ends_apart front n l (Class.OfEnds targets need) t = by (target_of targets) t
  where
    by : (target : Target) → same_target (Target.One n) target ≡ true → is_one_of front target ≡ false
    by (Target.One m) e = ap (λ k. list_any (λ r. k == r) front) (sym (eqb-true n m e)) ∙ lacks_any n front l
    by Target.Several e = refl
ends_apart front n l Class.Always t = refl
ends_apart front n l (Class.AtMoment deadline) t = refl
ends_apart front n l (Class.AtObject o) t = refl

pub no_ends : (c : Class) → nothing c ≡ for_one_of [] c
no_ends (Class.OfEnds targets need) = by (target_of targets)
  where
    by : (target : Target) → false ≡ is_one_of [] target
    by (Target.One n) = refl
    by Target.Several = refl
no_ends Class.Always = refl
no_ends (Class.AtMoment deadline) = refl
no_ends (Class.AtObject o) = refl

-- ---- several ends, where they were touched

and_nothing : (b : Bool) → (b && false) ≡ false
and_nothing true = refl
and_nothing false = refl

and_true : (b : Bool) → b ≡ (b && true)
and_true true = refl
and_true false = refl

pub several_passed_by : (touched : Bool) (s : State) (es : List Entry) (x : SeenFound) → touched ≡ false → LooksAt (for_several touched) s es x x
several_passed_by true s es x t = absurd (cc t)
several_passed_by false s es x t = looks_as nothing (for_several false) s es x x (λ c. sym (and_nothing (is_for Target.Several c))) (looks_none s es x)

pub several_looked_at : (touched : Bool) (s : State) (es : List Entry) (x y : SeenFound) → touched ≡ true → LooksAt (is_for Target.Several) s es x y → LooksAt (for_several touched) s es x y
several_looked_at false s es x y t f = absurd (cc t)
several_looked_at true s es x y t f = looks_as (is_for Target.Several) (for_several true) s es x y (λ c. and_true (is_for Target.Several c)) f

-- ---- all that a settling looks at

-- who waits for ends waits for something
pub several_apart : (several : Bool) (c : Class) → IsTrue (for_several several c) → is_always c ≡ false
several_apart several (Class.OfEnds targets need) t = refl
several_apart several Class.Always t = absurd (true≢false (sym t))
several_apart several (Class.AtMoment deadline) t = refl
several_apart several (Class.AtObject o) t = refl

-- who waits for one doesn't wait for several
pub ones_apart : (several : Bool) (ends : List ℕ) (c : Class) → IsTrue (for_one_of ends c) → either is_always (for_several several) c ≡ false
ones_apart several ends (Class.OfEnds targets need) t = by (target_of targets) t
  where
    by : (target : Target) → is_one_of ends target ≡ true → (false || (same_target Target.Several target && several)) ≡ false
    by (Target.One n) e = refl
    by Target.Several e = absurd (true≢false (sym e))
ones_apart several ends Class.Always t = absurd (true≢false (sym t))
ones_apart several ends (Class.AtMoment deadline) t = refl
ones_apart several ends (Class.AtObject o) t = refl

pub objects_apart_all : (several : Bool) (ends objects : List ℕ) (c : Class) → IsTrue (at_objects objects c) → either (either is_always (for_several several)) (for_one_of ends) c ≡ false
objects_apart_all several ends objects (Class.AtObject o) t = refl
objects_apart_all several ends objects Class.Always t = absurd (true≢false (sym t))
objects_apart_all several ends objects (Class.AtMoment deadline) t = absurd (true≢false (sym t))
objects_apart_all several ends objects (Class.OfEnds targets need) t = absurd (true≢false (sym t))

moments_apart : (t : SeenTouched) (c : Class) → IsTrue (touched_now t c) → is_moment c ≡ false
moments_apart t (Class.AtMoment deadline) u = absurd (true≢false (sym u))
moments_apart t Class.Always u = refl
moments_apart t (Class.OfEnds targets need) u = refl
moments_apart t (Class.AtObject o) u = refl

all_reopened : (t : SeenTouched) (c : Class) → (is_moment c || touched_now t c) ≡ reopened t c
all_reopened t Class.Always = refl
all_reopened t (Class.AtMoment deadline) = refl
all_reopened t (Class.OfEnds targets need) = by (target_of targets)
  where
    one : (b : Bool) → (false || ((false || b) || false)) ≡ b
    one true = refl
    one false = refl

    several : (b : Bool) → (false || (((false || b) || false) || false)) ≡ b
    several true = refl
    several false = refl

    by : (target : Target) → (false || (((false || (same_target Target.Several target && t.several)) || is_one_of t.ends target) || false)) ≡ is_touched t target
    by (Target.One n) = one (list_any (λ m. n == m) t.ends)
    by Target.Several = several t.several
all_reopened t (Class.AtObject o) = by (list_any (λ p. o == p) t.objects)
  where
    by : (b : Bool) → (false || (((false || false) || false) || b)) ≡ b
    by true = refl
    by false = refl

-- before the first look nobody was found
pub none_has : (s : State) (es : List Entry) (f : SeenFound) → HasFound nothing s es (emptied f)
none_has s es f = record { lost = none (λ i. loses_number (holds s) i); gained = none (λ i. needs_number (holds s) i) }
  where
    none : (test : Item → Bool) → AreFound (IsOf nothing) test es []
    none test = record { apart = tt; sound = λ p h. absurd (let below = h.1 in omega (arith, below)); complete = λ q i t l u. absurd (true≢false (sym l)) }

-- those whose moment has come, and all that was touched
pub looks_all : (t : SeenTouched) (s : State) (es : List Entry) (x y z : SeenFound) → LooksAt is_moment s es (emptied x) y → LooksAt (touched_now t) s es y z → HasFound (reopened t) s es z
looks_all t s es x y z f g =
    found_same (either nothing (reopened t)) (reopened t) s es z (λ c. refl)
    ((looks_both is_moment (touched_now t) (reopened t) s es (emptied x) y z (all_reopened t) (moments_apart t) f g).finds nothing (λ c u. refl) (none_has s es x))

-- after those whose moment has come, what was touched may be looked at
pub may_look_touched : (t : SeenTouched) (s : State) (es : List Entry) (x y : SeenFound) → Differ (slots_of es) → length es ≤ x.room → LooksAt is_moment s es (emptied x) y → MayLookAt (touched_now t) s es y
may_look_touched t s es x y apart room f = record {
  apart = apart;
  done = either nothing is_moment;
  unseen = moments_apart t;
  found = f.finds nothing (λ c u. refl) (none_has s es x);
  room = subst (λ n. length es ≤ n) (sym f.room) room;
}

-- what each of the looks at what was touched found, one after another
pub record LooksInTurn (t : SeenTouched) (s : State) (es : List Entry) (x0 x1 x2 x3 x4 : SeenFound) : Type 0 where
  pub always : LooksAt is_always s es x0 x1
  pub several : LooksAt (for_several t.several) s es x1 x2
  pub ends : LooksAt (for_one_of t.ends) s es x2 x3
  pub objects : LooksAt (at_objects t.objects) s es x3 x4

pub looks_touched : (t : SeenTouched) (s : State) (es : List Entry) (x0 x1 x2 x3 x4 : SeenFound) → LooksInTurn t s es x0 x1 x2 x3 x4 → LooksAt (touched_now t) s es x0 x4
looks_touched t s es x0 x1 x2 x3 x4 l =
    let a = either is_always (for_several t.several) in
    let b = either a (for_one_of t.ends) in
    let two = looks_both is_always (for_several t.several) a s es x0 x1 x2 (λ c. refl) (several_apart t.several) l.always l.several in
    let three = looks_both a (for_one_of t.ends) b s es x0 x2 x3 (λ c. refl) (ones_apart t.several t.ends) two l.ends in
    looks_both b (at_objects t.objects) (touched_now t) s es x0 x3 x4 (λ c. refl) (objects_apart_all t.several t.ends t.objects) three l.objects
