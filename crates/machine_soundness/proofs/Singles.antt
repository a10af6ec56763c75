-- Items of which no two say the same, one by one.
use Rattle.std.proofs.Common.{◌≡◌, ◌≤◌, refl, ap, sym, subst, ◌∙◌, ℕ, zero, suc, ◌+◌, Bool, true, false, cond, List, [], ◌∷◌, ◌++◌, take, drop, arith}
use Rattle.std.proofs.lemmas.Bool.{and_from}
use Rattle.std.proofs.lemmas.List.Sums.{sum_by-cons}
use Rattle.std.specs.Prelude.{count_by, not, Option, Some}
use Rattle.std.specs.List.{list_all}
use Rattle.machine.specs.declared.items.Delivery.{Delivery}
use Rattle.machine.specs.declared.items.Item.{Item}
use Rattle.machine.specs.Items.{is_wait_of}
use Rattle.machine.specs.Soundness.{Claim, are_single, claim_eq, claim_of, is_unclaimed, same_claim}
use Rattle.machine_soundness.specs.Going.{has_no_wait}
use Rattle.machine.proofs.Halves.{left, right}
use Rattle.machine_soundness.proofs.Lists.{all-imply, itself}

all-removed : (p : Item → Bool) (at : ℕ) (items : List Item) → list_all p items ≡ true → list_all p (take at items ++ drop (suc at) items) ≡ true
all-removed p zero [] h = h
all-removed p (suc at) [] h = h
all-removed p zero (i ∷ items) h = right (p i) _ h
all-removed p (suc at) (i ∷ items) h = and_from (p i) _ (left (p i) (list_all p items) h) (all-removed p at items (right (p i) _ h))

pub single_removed : (at : ℕ) (items : List Item) → are_single items ≡ true → are_single (take at items ++ drop (suc at) items) ≡ true
single_removed zero [] h = h
single_removed (suc at) [] h = h
single_removed zero (i ∷ items) h = right (is_unclaimed (claim_of i.delivery) items) _ h
single_removed (suc at) (i ∷ items) h =
    and_from _ _ (all-removed _ at items (left _ (are_single items) h)) (single_removed at items (right (is_unclaimed (claim_of i.delivery) items) _ h))

-- who waits for nothing has no Wake
pub wake_unclaimed : (g : ℕ) (items : List Item) → has_no_wait g items ≡ true → is_unclaimed (Some (Claim.WakeOf g)) items ≡ true
wake_unclaimed g items h = all-imply _ _ items (λ i. none i.delivery) h
  where
    none : (d : Delivery) → not (is_wait_of g d) ≡ true → not (same_claim (Some (Claim.WakeOf g)) (claim_of d)) ≡ true
    none (Delivery.Start k deadline) e = refl
    none (Delivery.Wake k w) e = e
    none (Delivery.Late k deadline n) e = refl
    none (Delivery.Timeout k n deadline) e = refl
    none (Delivery.Kill k kind) e = refl
    none (Delivery.Link n k kind x) e = refl

-- ---- how many say so

claim-itself : (c : Claim) → claim_eq c c ≡ true
claim-itself (Claim.StartOf g) = itself g
claim-itself (Claim.WakeOf g) = itself g
claim-itself (Claim.LateOf g) = itself g
claim-itself (Claim.TimeoutNumbered g) = itself g
claim-itself (Claim.LinkNumbered g) = itself g

-- where no item says this, none is of a kind that does
none-counted-of : (p : Delivery → Bool) (c : Claim) (items : List Item) → ((d : Delivery) → p d ≡ true → claim_of d ≡ Some c) → is_unclaimed (Some c) items ≡ true →
    count_by (λ i. p i.delivery) items ≡ 0
none-counted-of p c [] f h = refl
none-counted-of p c (i ∷ items) f h =
    sum_by-cons (λ (j : Item). cond (p j.delivery) 1 0) i items
    ∙ by (p i.delivery) refl (none-counted-of p c items f (right (not (same_claim (Some c) (claim_of i.delivery))) _ h))
  where
    by : (b : Bool) → p i.delivery ≡ b → count_by (λ j. p j.delivery) items ≡ 0 → cond b 1 0 + count_by (λ j. p j.delivery) items ≡ 0
    by true e rest =
        let said : not (same_claim (Some c) (claim_of i.delivery)) ≡ true = left _ (is_unclaimed (Some c) items) h in
        let own : same_claim (Some c) (claim_of i.delivery) ≡ true = ap (same_claim (Some c)) (f i.delivery e) ∙ claim-itself c in
        absurd (cc (said, ap not own))
    by false e rest = let zero : 0 + count_by (λ j. p j.delivery) items ≡ count_by (λ j. p j.delivery) items = omega arith in zero ∙ rest

pub one-counted : (p : Delivery → Bool) (c : Claim) (items : List Item) → ((d : Delivery) → p d ≡ true → claim_of d ≡ Some c) → are_single items ≡ true →
    count_by (λ i. p i.delivery) items ≤ 1
one-counted p c [] f h = omega arith
one-counted p c (i ∷ items) f h =
    subst (λ n. n ≤ 1) (sym (sum_by-cons (λ (j : Item). cond (p j.delivery) 1 0) i items))
    (by (p i.delivery) refl (one-counted p c items f (right (is_unclaimed (claim_of i.delivery) items) _ h)))
  where
    by : (b : Bool) → p i.delivery ≡ b → count_by (λ j. p j.delivery) items ≤ 1 → cond b 1 0 + count_by (λ j. p j.delivery) items ≤ 1
    by true e rest =
        let alone : is_unclaimed (Some c) items ≡ true = subst (λ (x : Option Claim). is_unclaimed x items ≡ true) (f i.delivery e) (left _ (are_single items) h) in
        let none : count_by (λ j. p j.delivery) items ≡ 0 = none-counted-of p c items f alone in
        omega arith
    by false e rest = omega arith
