-- Those who wait at an object stand in one column of its row each: one look for each column looks at all of them.
use Rattle.std.proofs.Common.{◌≡◌, refl, sym, ap, ◌∙◌, ℕ, ◌+◌, ◌<◌, ◌≤◌, Bool, true, false, List, Option, Some, None, ◌⊎◌, inl, inr, arith}
use Rattle.std.proofs.lemmas.Bool.{cases_order, eq-eqb, eqb-true, le-leb, le-ltb, lt-ltb, ne_eqb, or_left, or_right, true≢false}
use Rattle.std.proofs.lemmas.Bool.Decides.{nat_tests}
use Rattle.std.specs.Prelude.{◌==◌, ◌&&◌, ◌||◌, IsTrue, nat_le, nat_lt}
use Rattle.machine.specs.declared.items.Delivery.{Delivery}
use Rattle.machine.specs.State.{State}
use Rattle.machine_settling.specs.Classes.{Class, class_of, is_at}
use Rattle.hub_items.specs.declared.waits.WaitKind.{WaitKind}
use Rattle.hub_items.specs.Lines.{line_of_delivery}
use Rattle.held_items.specs.Entries.{Entry}
use Rattle.held_items.specs.Indexed.{has_key, is_key}
use Rattle.held_items.specs.Waits.{line_column, object_place, wait_column, wait_place, waits_at, waits_in_line, waits_in_none, waits_key}
use Rattle.held_items.proofs.WaitPlaces.{line_key, none_key}
use Rattle.hub_state.specs.Found.{Delivers, LooksAlong, LooksAt, SeenFound}
use Rattle.hub_state.proofs.Finding.{finds_as}
use Rattle.hub_state.proofs.Joining.{or_none, or_three}

-- ---- columns

-- in this column of the object
abbrev pub in_column : ℕ → ℕ → Delivery → Bool
in_column o n d = has_key waits_key (object_place o n) d

-- the key is one of the first columns of the object
abbrev pub is_before : ℕ → ℕ → Option ℕ → Bool
is_before o n None = false
is_before o n (Some k) = nat_le (object_place o 0) k && nat_lt k (object_place o n)

-- in one of the first columns of the object
abbrev pub in_columns : ℕ → ℕ → Delivery → Bool
in_columns o n d = is_before o n (waits_key d)

and_false : (a : Bool) → (a && false) ≡ false
and_false true = refl
and_false false = refl

one_further : (low m k : ℕ) → low ≤ m → ((nat_le low k && nat_lt k m) || (m == k)) ≡ (nat_le low k && nat_lt k (m + 1))
one_further low m k l = by (cases_order k m)
  where
    below : (a : Bool) → ((a && true) || false) ≡ (a && true)
    below true = refl
    below false = refl

    above : (a : Bool) → ((a && false) || false) ≡ (a && false)
    above true = refl
    above false = refl

    by : (k ≡ m) ⊎ ((k < m) ⊎ (m < k)) → ((nat_le low k && nat_lt k m) || (m == k)) ≡ (nat_le low k && nat_lt k (m + 1))
    by (inl e) = rw (le-ltb k m (omega (arith, e)), eq-eqb m k (sym e), le-leb low k (omega (arith, e, l)), lt-ltb k (m + 1) (omega (arith, e))) refl
    by (inr (inl h)) = rw (lt-ltb k m h, ne_eqb m k (λ e. omega (arith, e, h)), lt-ltb k (m + 1) (omega (arith, h))) (below (nat_le low k))
    by (inr (inr h)) = rw (le-ltb k m (omega (arith, h)), ne_eqb m k (λ e. omega (arith, e, h)), le-ltb k (m + 1) (omega (arith, h))) (above (nat_le low k))

pub columns_more : (o n : ℕ) (d : Delivery) → (in_columns o n d || in_column o n d) ≡ in_columns o (n + 1) d
columns_more o n d = by (waits_key d)
  where
    by : (key : Option ℕ) → (is_before o n key || is_key (object_place o n) key) ≡ is_before o (n + 1) key
    by None = refl
    by (Some k) =
        let next : object_place o (n + 1) ≡ object_place o n + 1 = omega arith in
        one_further (object_place o 0) (object_place o n) k (omega arith) ∙ ap (λ m. nat_le (object_place o 0) k && nat_lt k m) (sym next)

pub columns_apart : (o n : ℕ) (d : Delivery) → IsTrue (in_column o n d) → in_columns o n d ≡ false
columns_apart o n d = by (waits_key d)
  where
    by : (key : Option ℕ) → is_key (object_place o n) key ≡ true → is_before o n key ≡ false
    by None t = refl
    by (Some k) t = let e = eqb-true (object_place o n) k t in rw (le-ltb k (object_place o n) (omega (arith, e))) (and_false (nat_le (object_place o 0) k))

pub no_columns : (o : ℕ) (d : Delivery) → in_columns o 0 d ≡ false
no_columns o d = by (waits_key d)
  where
    by : (key : Option ℕ) → is_before o 0 key ≡ false
    by None = refl
    by (Some k) = grind (arith, nat_tests)

few_columns : (line : Option (WaitKind × ℕ)) → wait_column line < 8
few_columns None = omega arith
few_columns (Some line) = by line.0
  where
    by : (kind : WaitKind) → wait_column (Some (kind, line.1)) < 8
    by WaitKind.Acquire = omega arith
    by WaitKind.Lock = omega arith
    by WaitKind.Put = omega arith
    by WaitKind.Take = omega arith
    by WaitKind.Place = omega arith
    by WaitKind.Slot = omega arith
    by WaitKind.TakeOffer = omega arith

pub all_columns : (o : ℕ) (d : Delivery) → in_columns o 8 d ≡ waits_at o d
all_columns o d = by (line_of_delivery d) (class_of d)
  where
    row : (p column : ℕ) → column < 8 → (nat_le (object_place o 0) (object_place p column) && nat_lt (object_place p column) (object_place o 8)) ≡ (o == p)
    row p column l = at (cases_order o p)
      where
        at : (o ≡ p) ⊎ ((o < p) ⊎ (p < o)) → (nat_le (object_place o 0) (object_place p column) && nat_lt (object_place p column) (object_place o 8)) ≡ (o == p)
        at (inl e) = rw (le-leb (object_place o 0) (object_place p column) (omega (arith, e)), lt-ltb (object_place p column) (object_place o 8) (omega (arith, e, l)), eq-eqb o p e) refl
        at (inr (inl h)) = rw (le-ltb (object_place p column) (object_place o 8) (omega (arith, h)), ne_eqb o p (λ e. omega (arith, e, h))) (and_false (nat_le (object_place o 0) (object_place p column)))
        at (inr (inr h)) = let off : nat_le (object_place o 0) (object_place p column) ≡ false = grind (arith, nat_tests) in rw (off, ne_eqb o p (λ e. omega (arith, e, h))) refl

    by : (line : Option (WaitKind × ℕ)) (c : Class) → is_before o 8 (wait_place line c) ≡ is_at o c
    by line Class.Always = refl
    by line (Class.AtMoment deadline) = refl
    by line (Class.OfEnds targets need) = refl
    by line (Class.AtObject p) = row p (wait_column line) (few_columns line)

-- ---- one look after another

along_as : (a b : Delivery → Bool) (s : State) (es : List Entry) (x y : SeenFound) → ((d : Delivery) → a d ≡ b d) → LooksAlong a s es x y → LooksAlong b s es x y
along_as a b s es x y same f = record {
  finds = λ done new h.
      finds_as (Delivers (λ d. done d || a d)) (Delivers (λ d. done d || b d)) s es y (λ q i t m. ap (λ r. done i.delivery || r) (sym (same i.delivery)) ∙ m) (λ q i t m. ap (λ r. done i.delivery || r) (same i.delivery) ∙ m)
      (f.finds done (λ d t. new d (sym (same d) ∙ t)) h);
  room = f.room;
}

along_both : (a b c : Delivery → Bool) (s : State) (es : List Entry) (x y z : SeenFound) → ((d : Delivery) → (a d || b d) ≡ c d) → ((d : Delivery) → IsTrue (b d) → a d ≡ false) → LooksAlong a s es x y → LooksAlong b s es y z →
    LooksAlong c s es x z
along_both a b c s es x y z is apart f g = record {
  finds = λ done new h.
      finds_as (Delivers (λ d. (done d || a d) || b d)) (Delivers (λ d. done d || c d)) s es z (λ q i t m. sym (whole done i.delivery) ∙ m) (λ q i t m. whole done i.delivery ∙ m)
      (g.finds (λ d. done d || a d) (λ d t. or_none (done d) (a d) (new d (sym (is d) ∙ or_right (a d) (b d) t)) (apart d t)) (f.finds done (λ d t. new d (sym (is d) ∙ or_left (a d) (b d) t)) h));
  room = g.room ∙ f.room;
}
  where
    whole : (done : Delivery → Bool) (d : Delivery) → ((done d || a d) || b d) ≡ (done d || c d)
    whole done d = or_three (done d) (a d) (b d) ∙ ap (λ r. done d || r) (is d)

pub along_none : (o : ℕ) (s : State) (es : List Entry) (x : SeenFound) → LooksAlong (in_columns o 0) s es x x
along_none o s es x = record {
  finds = λ done new h. finds_as (Delivers done) (Delivers (λ d. done d || in_columns o 0 d)) s es x (λ q i t m. or_left (done i.delivery) (in_columns o 0 i.delivery) m) (λ q i t m. only done i.delivery m) h;
  room = refl;
}
  where
    or_nothing : (b c : Bool) → c ≡ false → (b || c) ≡ true → b ≡ true
    or_nothing true c e m = refl
    or_nothing false c e m = absurd (true≢false (sym m ∙ e))

    only : (done : Delivery → Bool) (d : Delivery) → (done d || in_columns o 0 d) ≡ true → done d ≡ true
    only done d m = or_nothing (done d) (in_columns o 0 d) (no_columns o d) m

one_column : (o n : ℕ) (s : State) (es : List Entry) (x y z : SeenFound) → LooksAlong (in_columns o n) s es x y → LooksAlong (in_column o n) s es y z → LooksAlong (in_columns o (n + 1)) s es x z
one_column o n s es x y z f g = along_both (in_columns o n) (in_column o n) (in_columns o (n + 1)) s es x y z (columns_more o n) (columns_apart o n) f g

-- one line more
pub line_more : (kind : WaitKind) (o : ℕ) (s : State) (es : List Entry) (x y z : SeenFound) → LooksAlong (in_columns o (line_column kind)) s es x y → LooksAlong (waits_in_line kind o) s es y z →
    LooksAlong (in_columns o (line_column kind + 1)) s es x z
line_more kind o s es x y z f g =
    one_column o (line_column kind) s es x y z f (along_as (waits_in_line kind o) (in_column o (line_column kind)) s es y z (λ d. sym (line_key kind o d)) g)

-- ---- all at an object

-- what the eight looks at an object found, one after another
pub record LooksByLine (o : ℕ) (s : State) (es : List Entry) (x0 x1 x2 x3 x4 x5 x6 x7 x8 : SeenFound) : Type 0 where
  pub acquire : LooksAlong (waits_in_line WaitKind.Acquire o) s es x0 x1
  pub lock : LooksAlong (waits_in_line WaitKind.Lock o) s es x1 x2
  pub put : LooksAlong (waits_in_line WaitKind.Put o) s es x2 x3
  pub take : LooksAlong (waits_in_line WaitKind.Take o) s es x3 x4
  pub place : LooksAlong (waits_in_line WaitKind.Place o) s es x4 x5
  pub slot : LooksAlong (waits_in_line WaitKind.Slot o) s es x5 x6
  pub take_offer : LooksAlong (waits_in_line WaitKind.TakeOffer o) s es x6 x7
  pub others : LooksAlong (waits_in_none o) s es x7 x8

pub by_line : (o : ℕ) (s : State) (es : List Entry) (x0 x1 x2 x3 x4 x5 x6 x7 x8 : SeenFound) → LooksByLine o s es x0 x1 x2 x3 x4 x5 x6 x7 x8 → LooksAt (is_at o) s es x0 x8
by_line o s es x0 x1 x2 x3 x4 x5 x6 x7 x8 l =
    let c0 = line_more WaitKind.Acquire o s es x0 x0 x1 (along_none o s es x0) l.acquire in
    let c1 = line_more WaitKind.Lock o s es x0 x1 x2 c0 l.lock in
    let c2 = line_more WaitKind.Put o s es x0 x2 x3 c1 l.put in
    let c3 = line_more WaitKind.Take o s es x0 x3 x4 c2 l.take in
    let c4 = line_more WaitKind.Place o s es x0 x4 x5 c3 l.place in
    let c5 = line_more WaitKind.Slot o s es x0 x5 x6 c4 l.slot in
    let c6 = line_more WaitKind.TakeOffer o s es x0 x6 x7 c5 l.take_offer in
    let c7 = one_column o 7 s es x0 x7 x8 c6 (along_as (waits_in_none o) (in_column o 7) s es x7 x8 (λ d. sym (none_key o d)) l.others) in
    let all = along_as (in_columns o 8) (waits_at o) s es x0 x8 (all_columns o) c7 in
    record { finds = λ done new h. all.finds (λ d. done (class_of d)) (λ d t. new (class_of d) t) h; room = all.room }
