-- For which requests a service asked for something, and the laws of that. `next` is the number of the next request of a
-- talk for which it may ask.
use Rattle.std.proofs.Common.{◌≡◌, ◌≢◌, ◌⊎◌, inl, inr, ℕ, ◌+◌, ◌<◌, ◌≤◌, ◌==◌, Bool, true, false, if◌then◌else◌, Option, Some, refl, sym, ap, ◌∙◌, subst, arith}
use Rattle.std.proofs.Math.Nat.{lt_irrefl, lt_of_lt_of_le, lt_trans}
use Rattle.std.proofs.Math.Numerals.{lt-add-one}
use Rattle.std.proofs.lemmas.Bool.Decides.{nat_tests}
use Rattle.stream_server.specs.declared.client.Client.{Client}
use Rattle.stream_server.specs.Keeping.{Listing}

-- for which request each thing was asked, by its number: the connection, and the number of the request on it
abbrev pub Owner : Type 0
Owner = ℕ → ℕ × ℕ

-- nothing was asked twice for one request
abbrev pub OwnOnce : (ℕ → Type 0) → Owner → Type 0
OwnOnce asked owner = (a b : ℕ) → asked a → asked b → owner a ≡ owner b → a ≡ b

-- Nothing was asked twice for one request. Each request for which something was asked came on a connection that was
-- accepted, and is before the next one of the client that is listed there.
pub record AreOwned {T : Type 0} (next : T → ℕ) (asked : ℕ → Type 0) (owner : Owner) (listed : Listing T) (accepted : ℕ) : Type 0 where
  pub once : OwnOnce asked owner
  pub came : (n : ℕ) → asked n → (owner n).0 < accepted
  pub before : (n : ℕ) (g : Client T) → asked n → listed (owner n).0 (Some g) → (owner n).1 < next g.talk

-- the same, but that on this connection they are before that number, whoever is listed there
pub record AreOwnedBut {T : Type 0} (next : T → ℕ) (asked : ℕ → Type 0) (owner : Owner) (listed : Listing T) (accepted one low : ℕ) : Type 0 where
  pub once : OwnOnce asked owner
  pub came : (n : ℕ) → asked n → (owner n).0 < accepted
  pub before : (n : ℕ) (g : Client T) → (owner n).0 ≢ one → asked n → listed (owner n).0 (Some g) → (owner n).1 < next g.talk
  pub below : (n : ℕ) → asked n → (owner n).0 ≡ one → (owner n).1 < low

-- ---- the laws

differ : (j k : ℕ) → (j == k) ≡ false → j ≢ k
differ j k test is = absurd (grind (arith, nat_tests))

module _ {T : Type 0} (next : T → ℕ) (asked : ℕ → Type 0) (owner : Owner) where
  -- nothing was asked yet
  pub owned_none : (listed : Listing T) (accepted : ℕ) → ((n : ℕ) → asked n → ⊥) → AreOwned next asked owner listed accepted
  owned_none listed accepted none = record {
    once = λ a b x y e. absurd (none a x);
    came = λ n x. absurd (none n x);
    before = λ n g x row. absurd (none n x);
  }

  -- for one that was just accepted nothing was asked
  pub owned_new : (listed now : Listing T) (accepted : ℕ) → AreOwned next asked owner listed accepted → ((k : ℕ) (s : Option (Client T)) → now k s → listed k s) → AreOwnedBut next asked owner now (accepted + 1) accepted 0
  owned_new listed now accepted h same = record {
    once = h.once;
    came = λ n x. lt_trans (h.came n x) (lt-add-one accepted);
    before = λ n g other x row. h.before n g x (same (owner n).0 (Some g) row);
    below = λ n x is. absurd (lt_irrefl accepted (subst (λ (i : ℕ). i < accepted) is (h.came n x)));
  }

  -- one that is listed again has not fallen below that number
  pub owned_again : (listed now : Listing T) (accepted k low : ℕ) → AreOwnedBut next asked owner listed accepted k low → ((j : ℕ) (s : Option (Client T)) → j ≢ k → now j s → listed j s) → ((g : Client T) → now k (Some g) → low ≤ next g.talk)
      → AreOwned next asked owner now accepted
  owned_again listed now accepted k low h others from = record {
    once = h.once;
    came = h.came;
    before = λ n g x row. by n g x row ((owner n).0 == k) refl;
  }
    where
      by : (n : ℕ) (g : Client T) → asked n → now (owner n).0 (Some g) → (b : Bool) → ((owner n).0 == k) ≡ b → (owner n).1 < next g.talk
      by n g x row true test =
          let here : (owner n).0 ≡ k = grind (arith, nat_tests) in
          lt_of_lt_of_le (h.below n x here) (from g (subst (λ (i : ℕ). now i (Some g)) here row))
      by n g x row false test = h.before n g (differ (owner n).0 k test) x (others (owner n).0 (Some g) (differ (owner n).0 k test) row)

  -- one was taken out, and its next number is that at most
  pub owned_out : (listed now : Listing T) (accepted k low : ℕ) (g : Client T) → AreOwned next asked owner listed accepted → listed k (Some g) → next g.talk ≤ low → ((j : ℕ) (s : Option (Client T)) → j ≢ k → now j s → listed j s)
      → AreOwnedBut next asked owner now accepted k low
  owned_out listed now accepted k low g h row most others = record {
    once = h.once;
    came = h.came;
    before = λ n c other x now_row. h.before n c x (others (owner n).0 (Some c) other now_row);
    below = λ n x is. lt_of_lt_of_le (h.before n g x (subst (λ (i : ℕ). listed i (Some g)) (sym is) row)) most;
  }

  -- ---- one thing more was asked, for a request of that number or a later one

  module _ (more : ℕ → Type 0) (own : Owner) (listed : Listing T) (accepted k low number i : ℕ) (h : AreOwnedBut next asked owner listed accepted k low)
      (adds : (n : ℕ) → more n → asked n ⊎ (number ≡ n)) (owns : (n : ℕ) → own n ≡ (if number == n then (k, i) else owner n)) (least : low ≤ i) where
    -- it is an old one, or the new one
    abbrev IsEither : ℕ → Type 0
    IsEither n = (asked n × (own n ≡ owner n)) ⊎ ((number ≡ n) × (own n ≡ (k, i)))

    owned_by : (n : ℕ) (b : Bool) → (number == n) ≡ b → own n ≡ (if b then (k, i) else owner n)
    owned_by n b test = owns n ∙ ap (λ (c : Bool). if c then (k, i) else owner n) test

    number_is : (n : ℕ) → (number == n) ≡ true → number ≡ n
    number_is n test = grind (arith, nat_tests)

    either : (n : ℕ) (b : Bool) → (number == n) ≡ b → asked n ⊎ (number ≡ n) → IsEither n
    either n true test x = inr (number_is n test, owned_by n true test)
    either n false test (inl x) = inl (x, owned_by n false test)
    either n false test (inr e) = absurd (differ number n test e)

    which : (n : ℕ) → more n → IsEither n
    which n x = either n (number == n) refl (adds n x)

    -- an old one is of another request
    apart : (a : ℕ) → asked a → owner a ≡ (k, i) → ⊥
    apart a x e =
        let below : (owner a).1 < low = h.below a x (ap (λ (o : ℕ × ℕ). o.0) e) in
        let is : (owner a).1 ≡ i = ap (λ (o : ℕ × ℕ). o.1) e in
        lt_irrefl i (lt_of_lt_of_le (subst (λ (m : ℕ). m < low) is below) least)

    pub once_more : OwnOnce more own
    once_more a b x y e = by (which a x) (which b y)
      where
        by : IsEither a → IsEither b → a ≡ b
        by (inl o) (inl p) = h.once a b o.0 p.0 (sym o.1 ∙ e ∙ p.1)
        by (inl o) (inr p) = absurd (apart a o.0 (sym o.1 ∙ e ∙ p.1))
        by (inr o) (inl p) = absurd (apart b p.0 (sym p.1 ∙ sym e ∙ o.1))
        by (inr o) (inr p) = sym o.0 ∙ p.0

    pub owned_more : (now : Listing T) (g : Client T) → k < accepted → i < next g.talk → ((s : Option (Client T)) → now k s → s ≡ Some g) → ((j : ℕ) (s : Option (Client T)) → j ≢ k → now j s → listed j s) → AreOwned next more own now accepted
    owned_more now g within past here others = record {
      once = once_more;
      came = λ n x. came_by n (which n x);
      before = λ n c x row. before_by n c (which n x) row;
    }
      where
        came_by : (n : ℕ) → IsEither n → (own n).0 < accepted
        came_by n (inl o) = subst (λ (p : ℕ × ℕ). p.0 < accepted) (sym o.1) (h.came n o.0)
        came_by n (inr o) = subst (λ (p : ℕ × ℕ). p.0 < accepted) (sym o.1) within

        client_is : (c : Client T) → ◌≡◌ {A = Option (Client T)} (Some c) (Some g) → c ≡ g
        client_is c e = cc

        past_here : (c : Client T) (m : ℕ) → now k (Some c) → m < next g.talk → m < next c.talk
        past_here c m row below = subst (λ (x : Client T). m < next x.talk) (sym (client_is c (here (Some c) row))) below

        old_by : (n : ℕ) (c : Client T) → asked n → (b : Bool) → ((owner n).0 == k) ≡ b → now (owner n).0 (Some c) → (owner n).1 < next c.talk
        old_by n c x true test row =
            let is : (owner n).0 ≡ k = grind (arith, nat_tests) in
            past_here c (owner n).1 (subst (λ (j : ℕ). now j (Some c)) is row) (lt_trans (lt_of_lt_of_le (h.below n x is) least) past)
        old_by n c x false test row = h.before n c (differ (owner n).0 k test) x (others (owner n).0 (Some c) (differ (owner n).0 k test) row)

        before_by : (n : ℕ) (c : Client T) → IsEither n → now (own n).0 (Some c) → (own n).1 < next c.talk
        before_by n c (inl o) row = subst (λ (p : ℕ × ℕ). p.1 < next c.talk) (sym o.1) (old_by n c o.0 ((owner n).0 == k) refl (subst (λ (p : ℕ × ℕ). now p.0 (Some c)) o.1 row))
        before_by n c (inr o) row = subst (λ (p : ℕ × ℕ). p.1 < next c.talk) (sym o.1) (past_here c i (subst (λ (p : ℕ × ℕ). now p.0 (Some c)) o.1 row) past)
