-- What the timers keep.
use Rattle.std.proofs.Common.{get_or, ◌≡◌, ◌≢◌, ℕ, zero, suc, ◌+◌, ◌-◌, ◌/◌, ◌^◌, ◌<◌, ◌≤◌, List, [], ◌∷◌, ◌++◌, length, refl, sym, ap, ◌∙◌, inl, inr, subst, arith, Contains, length-append}
use Rattle.std.proofs.lemmas.Bool.{cases_eq}
use Rattle.std.specs.List.{All}
use Rattle.std.specs.List.Sorted.{IsPermutation}
use Rattle.std.proofs.lemmas.List.Sorted.{IsPermutation-sym, IsPermutation-map, Contains-permutation}
use Rattle.std.proofs.lemmas.List.Elements.{Contains-append_cases}
use Rattle.item_places.specs.Items.{Differ}
use Rattle.item_places.proofs.ItemLemmas.{lacks_of_absent}
use Rattle.due_timers.specs.Places.{Has, Moves}
use Rattle.due_timers.specs.declared.heap.Timer.{Timer}
use Rattle.due_timers.specs.declared.limits.TheConstants.{MOST_TIMERS}
use Rattle.due_timers.specs.Heap.{timer, timer_at, rank, rank_at, IsNear, IsOrdered, IsTied}
use Rattle.due_timers.specs.SeenTimers.{items_in, deadlines_in, IsNotAfter}
use Rattle.due_timers.proofs.Tying.{item_at, default_free}

pub root_least : (r : ℕ → ℕ) (n fuel p : ℕ) → IsOrdered r n → p ≤ fuel → p < n → r 0 ≤ r p
root_least r n zero p is le lt = let z : 0 ≡ p = omega arith in subst (λ x. r 0 ≤ r x) z (omega arith)
root_least r n (suc fuel) p is le lt = elim (cases_eq p 0) [
  | inl z ↦ subst (λ x. r 0 ≤ r x) (sym z) (omega arith)
  | inr some ↦
      let up = root_least r n fuel ((p - 1) / 2) is (omega arith) (omega arith) in
      let edge = is.edge ((p - 1) / 2) p (omega arith) (omega arith) lt in
      omega arith
]

pub deadline_order : (t u : Timer) → rank t ≤ rank u → t.deadline ≤ u.deadline
unfolding rank
deadline_order t u h = omega arith

-- the order of two timers, from their ranks
pub order_of_ranks : (t u : Timer) → t.since < 2 ^ 64 → u.since < 2 ^ 64 → rank t ≤ rank u → IsNotAfter t u
unfolding rank
order_of_ranks t u t_fits u_fits h = elim (cases_eq t.deadline u.deadline) [
  | inl same ↦ inr (same, omega arith)
  | inr differs ↦ inl (let le = deadline_order t u h in omega arith)
]

-- the first timer of a heap is before all others
pub first_is_least : (xs : List Timer) → IsOrdered (rank_at xs) (length xs) → All (λ t. t.since < 2 ^ 64) xs → 0 < length xs → All (IsNotAfter (timer_at xs 0)) xs
first_is_least xs is fits some = λ p d lt.
    let least = root_least (rank_at xs) (length xs) p p is (omega arith) lt in
    let it : get_or xs p d ≡ timer_at xs p = default_free xs p d (timer 0 0 0) lt in
    subst (IsNotAfter (timer_at xs 0)) (sym it) (order_of_ranks (timer_at xs 0) (timer_at xs p) (fits 0 (timer 0 0 0) some) (fits p (timer 0 0 0) lt) least)

pub not_after_due : (t u : Timer) → IsNotAfter t u → t.deadline ≤ u.deadline
not_after_due t u (inl less) = omega arith
not_after_due t u (inr same) = let e = same.0 in omega arith

-- the first deadline is least
pub first_due : (xs : List Timer) (x : Timer) → All (IsNotAfter x) xs → All (λ t. x.deadline ≤ t.deadline) xs
first_due xs x all = λ p d lt. not_after_due x (get_or xs p d) (all p d lt)

-- a deadline of the list is that of one of its timers
deadline_of_contains : (xs : List Timer) (d : ℕ) → Contains (deadlines_in xs) d → (k : ℕ) × (k < length xs) × ((timer_at xs k).deadline ≡ d)
deadline_of_contains [] d p = absurd (omega (arith, p.1))
deadline_of_contains (x ∷ xs) d p = by_index (deadline_of_contains xs d) p.0 p.1 p.2
  where
    by_index : (Contains (deadlines_in xs) d → (k : ℕ) × (k < length xs) × ((timer_at xs k).deadline ≡ d)) → (j : ℕ) → j < suc (length (deadlines_in xs)) → get_or (deadlines_in (x ∷ xs)) j d ≡ d → (k : ℕ) × (k < length (x ∷ xs)) × ((timer_at (x ∷ xs) k).deadline ≡ d)
    by_index more zero within found = (zero, omega arith, found)
    by_index more (suc j) within found = let r = more (j, omega arith, found) in (suc r.0, omega (arith, r.1), r.2)

-- a timer before all others has the least deadline
pub due_first : (xs : List Timer) (x : Timer) (d : ℕ) → All (IsNotAfter x) xs → Contains (deadlines_in xs) d → x.deadline ≤ d
due_first xs x d all there =
    let k = deadline_of_contains xs d there in
    let e = k.2 in
    let le = not_after_due x (timer_at xs k.0) (all k.0 (timer 0 0 0) k.1) in
    omega arith

-- something is due, so not all are late
pub some_due : (xs : List Timer) (d now : ℕ) → Contains (deadlines_in xs) d → d ≤ now → All (λ t. now < t.deadline) xs → ⊥
some_due xs d now there le late =
    let k = deadline_of_contains xs d there in
    let e = k.2 in
    let lt = late k.0 (timer 0 0 0) k.1 in
    omega arith

pub contains_some : (xs : List Timer) (d : ℕ) → Contains (deadlines_in xs) d → 0 < length xs
contains_some xs d there = let k = deadline_of_contains xs d there in omega (arith, k.1)

pub contains_item : (xs : List Timer) (k : ℕ) → k < length xs → Contains (items_in xs) (item_at xs k)
contains_item [] k lt = absurd (omega arith)
contains_item (x ∷ xs) zero lt = (zero, omega arith, refl)
contains_item (x ∷ xs) (suc k) lt = let p = contains_item xs k (omega arith) in (suc p.0, omega (arith, p.1), p.2)

pub item_of_contains : (xs : List Timer) (q : ℕ) → Contains (items_in xs) q → (k : ℕ) × (k < length xs) × (item_at xs k ≡ q)
item_of_contains [] q p = absurd (omega (arith, p.1))
item_of_contains (x ∷ xs) q p = by_index (item_of_contains xs q) p.0 p.1 p.2
  where
    by_index : (Contains (items_in xs) q → (k : ℕ) × (k < length xs) × (item_at xs k ≡ q)) → (j : ℕ) → j < suc (length (items_in xs)) → get_or (items_in (x ∷ xs)) j q ≡ q → (k : ℕ) × (k < length (x ∷ xs)) × (item_at (x ∷ xs) k ≡ q)
    by_index more zero within found = (zero, omega arith, found)
    by_index more (suc j) within found = let r = more (j, omega arith, found) in (suc r.0, omega (arith, r.1), r.2)

-- no timer's item comes twice
pub items_differ : (xs : List Timer) → ((p p' : ℕ) → p < length xs → p' < length xs → item_at xs p ≡ item_at xs p' → p ≡ p') → Differ (items_in xs)
items_differ [] apart = tt
items_differ (x ∷ xs) apart = (
  lacks_of_absent x.item (items_in xs) (λ there. let k = item_of_contains xs x.item there in let same : zero ≡ suc k.0 = apart zero (suc k.0) (omega arith) (omega (arith, k.1)) (sym k.2) in absurd (omega arith)),
  items_differ xs (λ p p' a b e. let s : suc p ≡ suc p' = apart (suc p) (suc p') (omega arith) (omega arith) e in omega arith),
)

-- items stay below a bound where one below it is added
pub added_below : (old new : List Timer) (t : Timer) (n : ℕ) → IsPermutation (t ∷ old) new → t.item < n → ((q : ℕ) → Contains (items_in old) q → q < n) → (q : ℕ) → Contains (items_in new) q → q < n
added_below old new t n perm new_below old_below q there =
    let back = IsPermutation-sym (items_in (t ∷ old)) (items_in new) (IsPermutation-map (λ (x : Timer). x.item) (t ∷ old) new perm) in
    let was = Contains-permutation (items_in new) (items_in (t ∷ old)) q back there in
    elim (Contains-append_cases (t.item ∷ []) (items_in old) q was) [
      | inl here ↦ let e = only_one t.item q here in omega arith
      | inr rest ↦ old_below q rest
    ]
  where
    only_one : (x q : ℕ) → Contains (x ∷ []) q → x ≡ q
    only_one x q p = by_index p.0 p.1 p.2
      where
        by_index : (k : ℕ) → k < suc zero → get_or (x ∷ []) k q ≡ q → x ≡ q
        by_index zero within found = found
        by_index (suc k) within found = absurd (omega arith)

pub pushed_before : (xs : List Timer) (t : Timer) (k : ℕ) → k < length xs → timer_at (xs ++ t ∷ []) k ≡ timer_at xs k
pushed_before [] t k lt = absurd (omega arith)
pushed_before (x ∷ xs) t zero lt = refl
pushed_before (x ∷ xs) t (suc k) lt = pushed_before xs t k (omega arith)

pub pushed_here : (xs : List Timer) (t : Timer) → timer_at (xs ++ t ∷ []) (length xs) ≡ t
pushed_here [] t = refl
pushed_here (x ∷ xs) t = pushed_here xs t

pub near_pushed : (xs : List Timer) (t : Timer) → IsOrdered (rank_at xs) (length xs) → IsNear (rank_at (xs ++ t ∷ [])) (length (xs ++ t ∷ [])) (length xs)
near_pushed xs t is =
    let long = length-append xs (t ∷ []) in record {
      order = λ p k lo hi in' k_not p_not.
          let k_in : k < length xs = omega arith in
          let a : rank_at (xs ++ t ∷ []) k ≡ rank_at xs k = ap rank (pushed_before xs t k k_in) in
          let b : rank_at (xs ++ t ∷ []) p ≡ rank_at xs p = ap rank (pushed_before xs t p (omega arith)) in
          let e = is.edge p k lo hi k_in in
          subst (λ x. x ≤ rank_at (xs ++ t ∷ []) k) (sym b) (subst (λ x. rank_at xs p ≤ x) (sym a) e);
      skip = λ p k lo hi lo' hi' in'. absurd (omega arith);
    }

pub tied_pushed : (xs : List Timer) (t : Timer) (places s1 : List ℕ) → IsTied xs places → ((k : ℕ) → Has places t.item k → ⊥) → Moves places s1 t.item (length xs) → length xs < MOST_TIMERS → IsTied (xs ++ t ∷ []) s1
tied_pushed xs t places s1 tied absent g more =
    let long = length-append xs (t ∷ []) in
    let fresh : (p : ℕ) → p < length xs → item_at xs p ≢ t.item = λ p in' h. absent p (subst (λ x. Has places x p) h (tied.placed p in')) in
    let old : (p : ℕ) → p < length xs → item_at (xs ++ t ∷ []) p ≡ item_at xs p = λ p in'. ap (λ y. y.item) (pushed_before xs t p in') in
    let new : item_at (xs ++ t ∷ []) (length xs) ≡ t.item = ap (λ y. y.item) (pushed_here xs t) in
    record {
      placed = λ p in'. elim (cases_eq p (length xs)) [
        | inl same ↦ subst (λ k. Has s1 (item_at (xs ++ t ∷ []) k) k) (sym same) (subst (λ x. Has s1 x (length xs)) (sym new) g.here)
        | inr away ↦
            let p_in : p < length xs = omega arith in
            subst (λ x. Has s1 x p) (sym (old p p_in)) (g.kept (item_at xs p) p (tied.placed p p_in) (fresh p p_in))
      ];
      listed = λ q k h. elim (g.only q k h) [
        | inl a ↦ let l = tied.listed q k a.0 in (omega (arith, l.0), old k l.0 ∙ l.1)
        | inr b ↦ (subst (λ x. x < length (xs ++ t ∷ [])) (sym b.1) (omega arith), ap (item_at (xs ++ t ∷ [])) b.1 ∙ new ∙ sym b.0)
      ];
      apart = λ p p' in' in'' same. elim (cases_eq p (length xs)) [
        | inl u ↦ elim (cases_eq p' (length xs)) [
          | inl v ↦ u ∙ sym v
          | inr v ↦
              let p_in : p' < length xs = omega arith in
              absurd (fresh p' p_in (sym (old p' p_in) ∙ sym same ∙ ap (item_at (xs ++ t ∷ [])) u ∙ new))
        ]
        | inr u ↦
            let p_in : p < length xs = omega arith in
            elim (cases_eq p' (length xs)) [
              | inl v ↦ absurd (fresh p p_in (sym (old p p_in) ∙ same ∙ ap (item_at (xs ++ t ∷ [])) v ∙ new))
              | inr v ↦
                  let p_in' : p' < length xs = omega arith in
                  tied.apart p p' p_in p_in' (sym (old p p_in) ∙ same ∙ old p' p_in')
            ]
      ];
      few = omega arith;
    }

-- a table that says the same is tied to the same timers
pub tied_same : (xs ys : List Timer) (places places' : List ℕ) → ys ≡ xs → IsTied xs places → ((q : ℕ) → get_or places' q MOST_TIMERS ≡ get_or places q MOST_TIMERS) → IsTied ys places'
tied_same xs ys places places' e tied same = subst (λ l. IsTied l places') (sym e) (record {
  placed = λ p in'. let h = tied.placed p in' in (h.0, same (item_at xs p) ∙ h.1);
  listed = λ q k h. tied.listed q k (h.0, sym (same q) ∙ h.1);
  apart = tied.apart;
  few = tied.few;
})

pub tied_none : (xs : List Timer) (places : List ℕ) → xs ≡ [] → places ≡ [] → IsTied xs places
tied_none xs places e none = subst (λ l. IsTied l places) (sym e) (subst (λ l. IsTied [] l) (sym none) (record {
  placed = λ p in'. absurd (omega arith);
  listed = λ q k h. absurd (let a = h.0 in let b = h.1 in omega arith);
  apart = λ p p' in' in'' same. absurd (omega arith);
  few = omega arith;
}))

pub ordered_same : (xs ys : List Timer) → ys ≡ xs → IsOrdered (rank_at xs) (length xs) → IsOrdered (rank_at ys) (length ys)
ordered_same xs ys e is = subst (λ l. IsOrdered (rank_at l) (length l)) (sym e) is

pub ordered_none : (xs : List Timer) → xs ≡ [] → IsOrdered (rank_at xs) (length xs)
ordered_none xs e = record { edge = λ p k lo hi in'. let z = ap length e in absurd (omega arith) }

pub near_taken : (xs ys : List Timer) (at n m : ℕ) → length xs ≡ n → length ys ≡ m → at < length xs → m + 1 ≡ n → ((k : ℕ) (d : Timer) → k ≢ at → k + 1 < n → get_or ys k d ≡ get_or xs k d) → IsOrdered (rank_at xs) (length xs) → IsNear (rank_at ys) (length ys) at
near_taken xs ys at n m xn ym within long others is =
    let same : (k : ℕ) → k ≢ at → k < length ys → rank_at ys k ≡ rank_at xs k = λ k away lt. ap rank (others k (timer 0 0 0) away (omega arith)) in record {
      order = λ p k lo hi in' k_not p_not.
          let a = same k k_not in' in
          let b = same p p_not (omega arith) in
          let e = is.edge p k lo hi (omega arith) in
          omega arith;
      skip = λ p k lo hi lo' hi' in'.
          let a = same k (omega arith) in' in
          let b = same p (omega arith) (omega arith) in
          let e = is.edge p at lo hi within in
          let f = is.edge at k lo' hi' (omega arith) in
          omega arith;
    }
