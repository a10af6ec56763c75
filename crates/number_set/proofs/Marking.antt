-- Numbers and their marks.
use Rattle.std.proofs.Common.{◌≡◌, ◌≢◌, ℕ, ◌<◌, ◌≤◌, ◌+◌, ◌==◌, ◌||◌, Bool, true, false, List, [], ◌∷◌, ◌++◌, length, set, refl, sym, ap, ◌∙◌, subst, arith, inl, inr, length-set, length-append, get_or, get_or-set_same, get_or-set_other, eqb, ◌⊎◌}
use Rattle.std.proofs.lemmas.Bool.{cases_eq}
use Rattle.std.proofs.lemmas.Bool.Decides.{nat_tests}
use Rattle.std.proofs.lemmas.List.{get_or_past}
use Rattle.std.proofs.lemmas.List.Folds.{list_any-append}
use Rattle.std.proofs.lemmas.Map.Steps.{length-le_from_distinct_below}
use Rattle.std.specs.List.{list_any, AllByRecursion, IsDistinct}
use Rattle.item_places.specs.Items.{Lacks, Differ}
use Rattle.item_places.proofs.ItemLemmas.{differ_front, differ_from_front, differ_snoc}
use Rattle.number_set.specs.Sets.{is_among}
use Rattle.number_set.specs.SetParts.{AreMarked}

test_is : (j k : ℕ) → j ≡ k → (j == k) ≡ true
test_is j k h = grind (arith, nat_tests)

test_differs : (j k : ℕ) → j ≢ k → (j == k) ≡ false
test_differs j k h = grind (arith, nat_tests)

or_false : (b : Bool) → (b || false) ≡ b
or_false true = refl
or_false false = refl

-- ---- which numbers are among some

-- one more number
among_more : (k j : ℕ) (ks : List ℕ) → is_among j (ks ++ k ∷ []) ≡ (is_among j ks || (k == j))
among_more k j ks = list_any-append (λ i. i == j) ks (k ∷ []) ∙ ap (λ b. is_among j ks || b) (or_false (k == j))

among_front : (j k : ℕ) (ks : List ℕ) → j ≢ k → is_among j (ks ++ k ∷ []) ≡ is_among j ks
among_front j k ks h = among_more k j ks ∙ ap (λ b. is_among j ks || b) (test_differs k j (λ e. h (sym e))) ∙ or_false (is_among j ks)

among_last : (k : ℕ) (ks : List ℕ) → is_among k (ks ++ k ∷ []) ≡ true
among_last k ks = among_more k k ks ∙ ap (λ b. is_among k ks || b) (test_is k k refl) ∙ or_true (is_among k ks)
  where
    or_true : (b : Bool) → (b || true) ≡ true
    or_true true = refl
    or_true false = refl

lacks_of_not : (k : ℕ) (ks : List ℕ) → is_among k ks ≡ false → Lacks k ks
lacks_of_not k [] h = tt
lacks_of_not k (j ∷ ks) h = elim (cases_eq j k) [
  | inl same ↦ absurd (let t = test_is j k same in cc)
  | inr differs ↦ (λ e. differs (sym e), lacks_of_not k ks (let t = test_differs j k differs in ap (λ b. b || is_among k ks) (sym t) ∙ h))
]

not_of_lacks : (k : ℕ) (ks : List ℕ) → Lacks k ks → is_among k ks ≡ false
not_of_lacks k [] l = refl
not_of_lacks k (j ∷ ks) l = ap (λ b. b || is_among k ks) (test_differs j k (λ e. l.0 (sym e))) ∙ not_of_lacks k ks l.1

-- the test of std asks the other way round
turned : (k : ℕ) (ks : List ℕ) → list_any (eqb k) ks ≡ is_among k ks
turned k [] = refl
turned k (j ∷ ks) = elim (cases_eq j k) [
  | inl same ↦ ap (λ b. b || list_any (eqb k) ks) (test_is k j (sym same)) ∙ ap (λ b. b || is_among k ks) (sym (test_is j k same))
  | inr differs ↦ ap (λ b. b || list_any (eqb k) ks) (test_differs k j (λ e. differs (sym e))) ∙ turned k ks ∙ ap (λ b. b || is_among k ks) (sym (test_differs j k differs))
]

-- ---- there is a place for each

each_differs : (k : ℕ) (ks : List ℕ) → Lacks k ks → AllByRecursion (λ j. eqb k j ≡ false) ks
each_differs k [] l = tt
each_differs k (j ∷ ks) l = (test_differs k j l.0, each_differs k ks l.1)

distinct : (ks : List ℕ) → Differ ks → IsDistinct eqb ks
unfolding IsDistinct
distinct [] d = tt
distinct (k ∷ ks) d = (each_differs k ks d.0, distinct ks d.1)

within : (is_in : List Bool) (k : ℕ) → get_or is_in k false ≡ true → k < length is_in
within is_in k h = elim (leq (length is_in) k) [
  | inl past ↦ absurd (let e = get_or_past is_in k false past in cc)
  | inr below ↦ below
]
  where
    leq : (n k : ℕ) → (n ≤ k) ⊎ (k < n)
    leq n k = search (arith)

-- the numbers are no more than the marks
pub few : (is_in : List Bool) (ks : List ℕ) → AreMarked is_in ks → length ks ≤ length is_in
few is_in ks m = length-le_from_distinct_below ks (length is_in) (distinct ks m.differ) (λ k h. within is_in k (m.marks k ∙ sym (turned k ks) ∙ h))

-- ---- a number comes

pub marked_more : (is_in : List Bool) (ks : List ℕ) (k : ℕ) → k < length is_in → is_among k ks ≡ false → AreMarked is_in ks → AreMarked (set is_in k true) (ks ++ k ∷ [])
marked_more is_in ks k h new m = record {
  differ = differ_snoc ks k m.differ (lacks_of_not k ks new);
  marks = λ j. elim (cases_eq j k) [
    | inl same ↦ subst (λ n. get_or (set is_in k true) n false ≡ is_among n (ks ++ k ∷ [])) (sym same)
        (get_or-set_same is_in k true false h ∙ sym (among_last k ks))
    | inr differs ↦ get_or-set_other is_in k j true false differs ∙ m.marks j ∙ sym (among_front j k ks differs)
  ];
}

-- so there was a place for it
pub place : (is_in : List Bool) (ks : List ℕ) (k : ℕ) → k < length is_in → is_among k ks ≡ false → AreMarked is_in ks → length ks + 1 ≤ length is_in
place is_in ks k h new m =
    let f = few (set is_in k true) (ks ++ k ∷ []) (marked_more is_in ks k h new m) in
    let a = length-append ks (k ∷ []) in
    let b = length-set is_in k true in
    omega (arith, f, a, b)

-- ---- the last number goes

pub last_within : (is_in : List Bool) (ks : List ℕ) (k : ℕ) → AreMarked is_in (ks ++ k ∷ []) → k < length is_in
last_within is_in ks k m = within is_in k (m.marks k ∙ among_last k ks)

pub marked_less : (is_in : List Bool) (ks : List ℕ) (k : ℕ) → AreMarked is_in (ks ++ k ∷ []) → AreMarked (set is_in k false) ks
marked_less is_in ks k m = record {
  differ = differ_front ks (k ∷ []) m.differ;
  marks = λ j. elim (cases_eq j k) [
    | inl same ↦ subst (λ n. get_or (set is_in k false) n false ≡ is_among n ks) (sym same)
        (get_or-set_same is_in k false false (last_within is_in ks k m) ∙ sym (not_of_lacks k ks (differ_from_front ks [] k m.differ)))
    | inr differs ↦ get_or-set_other is_in k j false false differs ∙ m.marks j ∙ among_front j k ks differs
  ];
}
