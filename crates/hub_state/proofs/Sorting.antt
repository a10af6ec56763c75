-- Pairs that are sorted.
use Rattle.std.proofs.Common.{◌≡◌, refl, sym, ap, ◌∙◌, subst, ℕ, zero, suc, ◌+◌, ◌<◌, ◌≤◌, ◌==◌, cond, List, [], ◌∷◌, length, Some, ◌⊎◌, inl, inr, slice_get, get_or, arith}
use Rattle.std.proofs.lemmas.Bool.{cases_eq, cases_lt, eq-eqb, ne_eqb}
use Rattle.std.proofs.lemmas.List.Elements.{Contains-get_or}
use Rattle.std.proofs.lemmas.List.Sorted.{sum_by-IsPermutation}
use Rattle.std.proofs.lemmas.List.Sums.{sum_by-cons}
use Rattle.std.specs.List.{Contains, sum_by}
use Rattle.std.specs.List.Sorted.{IsNonDecreasingBy, IsPermutation, IsStrictlyIncreasing}
use Rattle.item_places.specs.Items.{Differ, Lacks}
use Rattle.item_places.proofs.ItemLemmas.{places_differ}
use Rattle.held_items.specs.Moments.{slots_in}
use Rattle.hub_state.specs.Found.{sinces_in}

-- ---- numbers that differ, in another order

-- how often it comes
one_at : ℕ → ℕ → ℕ
one_at x y = cond (y == x) 1 0

occurs : ℕ → List ℕ → ℕ
occurs x ys = sum_by (one_at x) ys

one_same : (x : ℕ) → one_at x x ≡ 1
unfolding one_at
one_same x = ap (λ b. cond b 1 0) (eq-eqb x x refl)

one_other : (x y : ℕ) → (y ≡ x → ⊥) → one_at x y ≡ 0
unfolding one_at
one_other x y n = ap (λ b. cond b 1 0) (ne_eqb y x n)

occurs-cons : (x y : ℕ) (ys : List ℕ) → occurs x (y ∷ ys) ≡ one_at x y + occurs x ys
unfolding occurs
occurs-cons x y ys = sum_by-cons (one_at x) y ys

lacks_none : (x : ℕ) (ys : List ℕ) → Lacks x ys → occurs x ys ≡ 0
unfolding occurs
lacks_none x [] l = refl
lacks_none x (y ∷ ys) l = let a = occurs-cons x y ys in let b = one_other x y (λ e. l.0 (sym e)) in let c = lacks_none x ys l.1 in omega (arith, a, b, c)

none_lacks : (x : ℕ) (ys : List ℕ) → occurs x ys ≡ 0 → Lacks x ys
none_lacks x [] h = tt
none_lacks x (y ∷ ys) h =
    let a = occurs-cons x y ys in
    ((λ e. (let b : one_at x y ≡ 1 = ap (one_at x) (sym e) ∙ one_same x in omega (arith, a, b, h))), none_lacks x ys (omega (arith, a, h)))

differ_once : (x : ℕ) (ys : List ℕ) → Differ ys → occurs x ys ≤ 1
unfolding occurs
differ_once x [] d = omega arith
differ_once x (y ∷ ys) d = by (cases_eq y x) (differ_once x ys d.1)
  where
    by : (y ≡ x) ⊎ (y ≡ x → ⊥) → occurs x ys ≤ 1 → occurs x (y ∷ ys) ≤ 1
    by (inl e) more = let a = occurs-cons x y ys in let b : one_at x y ≡ 1 = ap (one_at x) e ∙ one_same x in let c = lacks_none x ys (subst (λ z. Lacks z ys) e d.0) in omega (arith, a, b, c)
    by (inr n) more = let a = occurs-cons x y ys in let b = one_other x y n in omega (arith, a, b, more)

once_differ : (ys : List ℕ) → ((x : ℕ) → occurs x ys ≤ 1) → Differ ys
once_differ [] h = tt
once_differ (y ∷ ys) h =
    let a = occurs-cons y y ys in
    let b = one_same y in
    let c = h y in
    (none_lacks y ys (omega (arith, a, b, c)), once_differ ys (λ x. (let u = occurs-cons x y ys in let v = h x in omega (arith, u, v))))

pub differ_moved : (xs ys : List ℕ) → IsPermutation xs ys → Differ xs → Differ ys
unfolding occurs
differ_moved xs ys p d = once_differ ys (λ x. (let e = sum_by-IsPermutation (one_at x) xs ys p in let l = differ_once x xs d in subst (λ n. n ≤ 1) (sym e) l))

-- ---- in order of since

slot_at : (qs : List (ℕ × ℕ)) (k : ℕ) → k < length qs → slice_get (slots_in qs) k ≡ Some (get_or qs k (0, 0)).1
slot_at [] k l = absurd (omega (arith, l))
slot_at (q ∷ qs) zero l = refl
slot_at (q ∷ qs) (suc k) l = slot_at qs k (omega (arith, l))

since_at : (qs : List (ℕ × ℕ)) (k : ℕ) → k < length qs → get_or (sinces_in qs) k 0 ≡ (get_or qs k (0, 0)).0
since_at [] k l = absurd (omega (arith, l))
since_at (q ∷ qs) zero l = refl
since_at (q ∷ qs) (suc k) l = since_at qs k (omega (arith, l))

length_sinces : (qs : List (ℕ × ℕ)) → length (sinces_in qs) ≡ length qs
length_sinces [] = refl
length_sinces (q ∷ qs) = ap suc (length_sinces qs)

-- where one since is that of one slot
pub rising_sinces : (qs : List (ℕ × ℕ)) → IsNonDecreasingBy (λ p. p.0) qs → Differ (slots_in qs) → ((p q : ℕ × ℕ) → Contains qs p → Contains qs q → p.0 ≡ q.0 → p.1 ≡ q.1) → IsStrictlyIncreasing (sinces_in qs)
rising_sinces qs sorted d one k l =
    let n = length_sinces qs in
    let lk : k < length qs = omega (arith, l, n) in
    let ln : k + 1 < length qs = omega (arith, l, n) in
    let le : (get_or qs k (0, 0)).0 ≤ (get_or qs (k + 1) (0, 0)).0 = sorted k (k + 1) (0, 0) (omega arith) ln in
    by lk ln (since_at qs k lk) (since_at qs (k + 1) ln) le (cases_lt (get_or qs k (0, 0)).0 (get_or qs (k + 1) (0, 0)).0)
  where
    by : k < length qs → k + 1 < length qs → get_or (sinces_in qs) k 0 ≡ (get_or qs k (0, 0)).0 → get_or (sinces_in qs) (k + 1) 0 ≡ (get_or qs (k + 1) (0, 0)).0 → (get_or qs k (0, 0)).0 ≤ (get_or qs (k + 1) (0, 0)).0 →
        ((get_or qs k (0, 0)).0 < (get_or qs (k + 1) (0, 0)).0) ⊎ ((get_or qs (k + 1) (0, 0)).0 ≤ (get_or qs k (0, 0)).0) → get_or (sinces_in qs) k 0 < get_or (sinces_in qs) (k + 1) 0
    by lk ln a b le (inl lt) = rw (a, b) lt
    by lk ln a b le (inr ge) =
        let e : (get_or qs k (0, 0)).0 ≡ (get_or qs (k + 1) (0, 0)).0 = omega (arith, le, ge) in
        let s = one (get_or qs k (0, 0)) (get_or qs (k + 1) (0, 0)) (Contains-get_or qs k (0, 0) lk) (Contains-get_or qs (k + 1) (0, 0) ln) e in
        let same = places_differ (slots_in qs) k (k + 1) (get_or qs (k + 1) (0, 0)).1 d (slot_at qs k lk ∙ ap Some s) (slot_at qs (k + 1) ln) in
        absurd (omega (arith, same))
