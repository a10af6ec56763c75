-- What keeps a state sound.
use Rattle.std.proofs.Common.{◌≡◌, refl, ap, ◌∙◌, ℕ, ◌+◌, Bool, true, false, List, [], ◌∷◌, ◌++◌, map, arith}
use Rattle.std.proofs.lemmas.Bool.{and_from}
use Rattle.std.proofs.lemmas.Bool.Decides.{nat_tests}
use Rattle.std.proofs.lemmas.List.Folds.{list_all-append}
use Rattle.std.specs.Prelude.{not, ◌==◌, ◌&&◌, Option, Some, None, nat_le, filter, cond}
use Rattle.std.specs.List.{list_all}
use Rattle.machine.specs.declared.items.Delivery.{Delivery}
use Rattle.machine.specs.declared.items.Item.{Item}
use Rattle.machine.specs.State.{State}
use Rattle.machine.specs.Holds.{holds}
use Rattle.machine.specs.Items.{add_item, drop_items}
use Rattle.machine.specs.Settle.{settle, settled, number_after}
use Rattle.machine.specs.Soundness.{Claim, ascend, are_single, claim_eq, claim_of, is_meant, is_sound, is_unclaimed, same_claim}
use Rattle.machine.proofs.Halves.{left, right}

-- ---- a settling

pub ascend-settled : (hs : List Bool) (n : ℕ) (items : List Item) (low next : ℕ) → ascend low next (settled hs n items) ≡ ascend low next items
ascend-settled [] n items low next = refl
ascend-settled (h ∷ hs) n [] low next = refl
ascend-settled (h ∷ hs) n (i ∷ items) low next = ap (λ b. nat_le low i.since && b) (ascend-settled hs (number_after h i.ready n) items (i.since + 1) next)

pub list_all-settled : (test : Delivery → Bool) (hs : List Bool) (n : ℕ) (items : List Item) →
    list_all (λ i. test i.delivery) (settled hs n items) ≡ list_all (λ i. test i.delivery) items
list_all-settled test [] n items = refl
list_all-settled test (h ∷ hs) n [] = refl
list_all-settled test (h ∷ hs) n (i ∷ items) = ap (λ b. test i.delivery && b) (list_all-settled test hs (number_after h i.ready n) items)

pub single-settled : (hs : List Bool) (n : ℕ) (items : List Item) → are_single (settled hs n items) ≡ are_single items
single-settled [] n items = refl
single-settled (h ∷ hs) n [] = refl
single-settled (h ∷ hs) n (i ∷ items) =
    ap (λ b. b && are_single (settled hs (number_after h i.ready n) items)) (list_all-settled (λ d. not (same_claim (claim_of i.delivery) (claim_of d))) hs (number_after h i.ready n) items)
    ∙ ap (λ b. is_unclaimed (claim_of i.delivery) items && b) (single-settled hs (number_after h i.ready n) items)

pub sound-settle : (s : State) → is_sound (settle s) ≡ is_sound s
sound-settle s =
    let hs = map (holds s) s.items in
    ap (λ b. b && are_single (settled hs s.next_ready s.items) && list_all (λ i. is_meant s i.delivery) (settled hs s.next_ready s.items)) (ascend-settled hs s.next_ready s.items 0 s.next_since)
    ∙ ap (λ b. ascend 0 s.next_since s.items && b && list_all (λ i. is_meant s i.delivery) (settled hs s.next_ready s.items)) (single-settled hs s.next_ready s.items)
    ∙ ap (λ b. ascend 0 s.next_since s.items && are_single s.items && b) (list_all-settled (is_meant s) hs s.next_ready s.items)

-- ---- items that go

pub ascend-lower : (low high next : ℕ) (items : List Item) → nat_le low high ≡ true → ascend high next items ≡ true → ascend low next items ≡ true
ascend-lower low high next [] h k = grind (arith, nat_tests)
ascend-lower low high next (i ∷ items) h k =
    let above : nat_le high i.since ≡ true = left _ _ k in
    and_from _ _ (grind (arith, nat_tests)) (right (nat_le high i.since) _ k)

pub ascend-filter : (p : Item → Bool) (low next : ℕ) (items : List Item) → ascend low next items ≡ true → ascend low next (filter p items) ≡ true
ascend-filter p low next [] h = h
ascend-filter p low next (i ∷ items) h =
    let rest : ascend (i.since + 1) next (filter p items) ≡ true = ascend-filter p (i.since + 1) next items (right (nat_le low i.since) _ h) in
    let first : nat_le low i.since ≡ true = left _ _ h in
    let below : nat_le low (i.since + 1) ≡ true = grind (arith, nat_tests) in
    elim (p i) as (λ b. ascend low next (cond b (i ∷ filter p items) (filter p items)) ≡ true) [
      | true ↦ and_from _ _ first rest
      | false ↦ ascend-lower low (i.since + 1) next (filter p items) below rest
    ]

list_all-filter : (test : Item → Bool) (p : Item → Bool) (items : List Item) → list_all test items ≡ true → list_all test (filter p items) ≡ true
list_all-filter test p [] h = h
list_all-filter test p (i ∷ items) h =
    let rest : list_all test (filter p items) ≡ true = list_all-filter test p items (right (test i) _ h) in
    elim (p i) as (λ b. list_all test (cond b (i ∷ filter p items) (filter p items)) ≡ true) [ true ↦ and_from _ _ (left _ _ h) rest | false ↦ rest ]

pub single-filter : (p : Item → Bool) (items : List Item) → are_single items ≡ true → are_single (filter p items) ≡ true
single-filter p [] h = h
single-filter p (i ∷ items) h =
    let rest : are_single (filter p items) ≡ true = single-filter p items (right (is_unclaimed (claim_of i.delivery) items) _ h) in
    elim (p i) as (λ b. are_single (cond b (i ∷ filter p items) (filter p items)) ≡ true) [
      | true ↦ and_from _ _ (list_all-filter _ p items (left _ _ h)) rest
      | false ↦ rest
    ]

pub sound-drop_items : (test : Delivery → Bool) (s : State) → is_sound s ≡ true → is_sound (drop_items test s) ≡ true
sound-drop_items test s h =
    let two : (ascend 0 s.next_since s.items && are_single s.items) ≡ true = left _ _ h in
    and_from _ _ (and_from _ _ (ascend-filter _ 0 s.next_since s.items (left _ _ two)) (single-filter _ s.items (right (ascend 0 s.next_since s.items) _ two)))
    (list_all-filter _ _ s.items (right (ascend 0 s.next_since s.items && are_single s.items) _ h))

-- ---- an item that comes

pub ascend-append : (low next : ℕ) (items : List Item) (i : Item) → ascend low next items ≡ true → (i.since ≡ next) → ascend low (next + 1) (items ++ i ∷ []) ≡ true
ascend-append low next [] i h e =
    let first : nat_le low i.since ≡ true = rw e h in
    let last : nat_le (i.since + 1) (next + 1) ≡ true = grind (arith, nat_tests) in
    and_from (nat_le low i.since) (nat_le (i.since + 1) (next + 1)) first last
ascend-append low next (j ∷ items) i h e = and_from _ _ (left _ _ h) (ascend-append (j.since + 1) next items i (right (nat_le low j.since) _ h) e)

nat_eq-symmetric : (a b : ℕ) → (a == b) ≡ (b == a)
nat_eq-symmetric a b = grind (arith, nat_tests)

claim-symmetric : (a b : Claim) → claim_eq a b ≡ claim_eq b a
claim-symmetric (Claim.StartOf g) (Claim.StartOf h) = nat_eq-symmetric g h
claim-symmetric (Claim.WakeOf g) (Claim.WakeOf h) = nat_eq-symmetric g h
claim-symmetric (Claim.LateOf g) (Claim.LateOf h) = nat_eq-symmetric g h
claim-symmetric (Claim.TimeoutNumbered g) (Claim.TimeoutNumbered h) = nat_eq-symmetric g h
claim-symmetric (Claim.LinkNumbered g) (Claim.LinkNumbered h) = nat_eq-symmetric g h
claim-symmetric a b = refl

pub same-symmetric : (a b : Option Claim) → same_claim a b ≡ same_claim b a
same-symmetric (Some a) (Some b) = claim-symmetric a b
same-symmetric None None = refl
same-symmetric None (Some b) = refl
same-symmetric (Some a) None = refl

pub single-append : (items : List Item) (i : Item) → is_unclaimed (claim_of i.delivery) items ≡ true → are_single items ≡ true → are_single (items ++ i ∷ []) ≡ true
single-append [] i h k = refl
single-append (j ∷ items) i h k =
    let other : not (same_claim (claim_of j.delivery) (claim_of i.delivery)) ≡ true =
    ap not (same-symmetric (claim_of j.delivery) (claim_of i.delivery)) ∙ left _ _ h in
    let mine : is_unclaimed (claim_of j.delivery) (items ++ i ∷ []) ≡ true =
    list_all-append (λ k. not (same_claim (claim_of j.delivery) (claim_of k.delivery))) items (i ∷ []) ∙ and_from _ _ (left _ _ k) (and_from _ true other refl) in
    and_from _ _ mine (single-append items i (right (not (same_claim (claim_of i.delivery) (claim_of j.delivery))) _ h) (right (is_unclaimed (claim_of j.delivery) items) _ k))

pub sound-add_item : (d : Delivery) (s : State) → is_unclaimed (claim_of d) s.items ≡ true → is_meant s d ≡ true → is_sound s ≡ true → is_sound (add_item d s) ≡ true
sound-add_item d s free meant h =
    let two : (ascend 0 s.next_since s.items && are_single s.items) ≡ true = left _ _ h in
    and_from _ _ (and_from _ _ (ascend-append 0 s.next_since s.items _ (left _ _ two) refl) (single-append s.items _ free (right (ascend 0 s.next_since s.items) _ two)))
    (list_all-append (λ i. is_meant s i.delivery) s.items _ ∙ and_from _ _ (right (ascend 0 s.next_since s.items && are_single s.items) _ h) (and_from _ true meant refl))
