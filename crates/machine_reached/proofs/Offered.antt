-- Offers that are kept each have a Wake, and each a since of its own.
use Rattle.std.proofs.Common.{◌≡◌, refl, ap, ◌∙◌, sym, subst, ℕ, zero, suc, ◌+◌, Bool, true, false, List, [], ◌∷◌, arith}
use Rattle.std.proofs.lemmas.Bool.Decides.{nat_tests}
use Rattle.std.specs.Prelude.{◌||◌, Some, nat_le, slice_get}
use Rattle.std.specs.List.{list_any}
use Rattle.machine.specs.declared.state.Offer.{Offer}
use Rattle.machine.specs.State.{State}
use Rattle.machine.specs.Holds.{is_offer_of}
use Rattle.machine.proofs.Halves.{left, right}
use Rattle.machine_soundness.proofs.Lists.{itself}
use Rattle.machine_offers.specs.Offers.{offers_at}
use Rattle.machine_offers.proofs.Offers.{AreKeptOffers, rise}
use Rattle.machine_reached.specs.Offers.{AreOffered}

any-get : (p : Offer → Bool) (fs : List Offer) (k : ℕ) (f : Offer) → slice_get fs k ≡ Some f → p f ≡ true → list_any p fs ≡ true
any-get p [] k f there e = absurd (cc there)
any-get p (y ∷ fs) zero f there e = let same : y ≡ f = cc there in ap (λ b. b || list_any p fs) (ap p same ∙ e)
any-get p (y ∷ fs) (suc k) f there e = or (p y) (any-get p fs k f there e)
  where
    or : {b : Bool} (a : Bool) → b ≡ true → (a || b) ≡ true
    or true z = refl
    or false z = z

later-since : (low next k : ℕ) (fs : List Offer) (f : Offer) → rise low next fs ≡ true → slice_get fs k ≡ Some f → nat_le low f.since ≡ true
later-since low next k [] f h there = absurd (cc there)
later-since low next zero (y ∷ fs) f h there = let same : y ≡ f = cc there in subst (λ (x : Offer). nat_le low x.since ≡ true) same (left _ (rise (y.since + 1) next fs) h)
later-since low next (suc k) (y ∷ fs) f h there =
    let here : nat_le low y.since ≡ true = left _ (rise (y.since + 1) next fs) h in
    let above : nat_le (y.since + 1) f.since ≡ true = later-since (y.since + 1) next k fs f (right (nat_le low y.since) _ h) there in
    grind (arith, nat_tests, here, above)

beyond : (a b : ℕ) → nat_le (a + 1) b ≡ true → a ≡ b → ⊥
beyond a b h e = grind (arith, nat_tests, h, e)

own-since : (low next : ℕ) (fs : List Offer) (j k : ℕ) (a b : Offer) → rise low next fs ≡ true → slice_get fs j ≡ Some a → slice_get fs k ≡ Some b → a.since ≡ b.since → j ≡ k
own-since low next [] j k a b h there here e = absurd (cc there)
own-since low next (y ∷ fs) zero zero a b h there here e = refl
own-since low next (y ∷ fs) zero (suc k) a b h there here e =
    let same : y ≡ a = cc there in
    absurd (beyond y.since b.since (later-since (y.since + 1) next k fs b (right (nat_le low y.since) _ h) here) (ap (λ (x : Offer). x.since) same ∙ e))
own-since low next (y ∷ fs) (suc j) zero a b h there here e =
    let same : y ≡ b = cc here in
    absurd (beyond y.since a.since (later-since (y.since + 1) next j fs a (right (nat_le low y.since) _ h) there) (ap (λ (x : Offer). x.since) same ∙ sym e))
own-since low next (y ∷ fs) (suc j) (suc k) a b h there here e = ap suc (own-since (y.since + 1) next fs j k a b (right (nat_le low y.since) _ h) there here e)

pub offered : (s : State) → AreKeptOffers s.objects s.items s.next_since → AreOffered s
offered s m =
    record {
      waited = λ o k f there. m.waited o f.since (any-get (is_offer_of f.since) (offers_at o s.objects) k f there (itself f.since));
      apart = λ o j k a b there here e. own-since 0 s.next_since (offers_at o s.objects) j k a b (m.rising o) there here e;
    }
