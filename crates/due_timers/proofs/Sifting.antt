-- A heap keeps its order, over the ranks of its places.
use Rattle.std.proofs.Common.{Bool, false, IsTrue, ◌↔◌, ◌≡◌, ◌≢◌, ℕ, ◌+◌, ◌-◌, ◌*◌, ◌/◌, ◌<◌, ◌≤◌, List, length, sym, ap, ◌∙◌, inl, inr, subst, arith}
use Rattle.std.proofs.lemmas.Bool.{cases_eq}
use Rattle.std.specs.List.{SwappedAt}
use Rattle.due_timers.specs.declared.heap.Timer.{Timer}
use Rattle.std.specs.List.Sorted.{IsPermutation}
use Rattle.std.proofs.lemmas.List.Sorted.{IsPermutation-trans}
use Rattle.due_timers.specs.Heap.{IsTied, timer, rank, rank_at, IsNear, IsAbove, IsBelow, IsDown, IsOrdered}

pub record IsSwapped (r r' : ℕ → ℕ) (i j : ℕ) : Type 0 where
  pub at_i : r' i ≡ r j
  pub at_j : r' j ≡ r i
  pub others : (k : ℕ) → k ≢ i → k ≢ j → r' k ≡ r k

pub ranks_swapped : (xs ys : List Timer) (i j : ℕ) → SwappedAt xs ys i j → IsSwapped (rank_at xs) (rank_at ys) i j
ranks_swapped xs ys i j s = record {
  at_i = ap rank (s.0 (timer 0 0 0));
  at_j = ap rank (s.1 (timer 0 0 0));
  others = λ k a b. ap rank (s.2 k (timer 0 0 0) a b);
}

module _ (r : ℕ → ℕ) (n : ℕ) where
  pub ordered_of : (i : ℕ) → IsNear r n i → IsAbove r i → IsBelow r n i → IsOrdered r n
  ordered_of i near above below = record {
    edge = λ p k lo hi in'. elim (cases_eq k i) [
      | inl k_is ↦ subst (λ x. r p ≤ r x) (sym k_is) (above.edge p (omega (arith, k_is)) (omega (arith, k_is)))
      | inr k_not ↦ elim (cases_eq p i) [
        | inl p_is ↦ subst (λ x. r x ≤ r k) (sym p_is) (below.edge k (omega (arith, p_is)) (omega (arith, p_is)) in')
        | inr p_not ↦ near.order p k lo hi in' k_not p_not
      ]
    ];
  }

  -- the last place has no children
  pub ordered_last : (i : ℕ) → n ≡ i + 1 → IsDown r n i → IsOrdered r n
  ordered_last i last down = ordered_of i down.near down.above (record { edge = λ k lo hi in'. absurd (omega arith) })

  pub down_of : (i : ℕ) → i < n → IsOrdered r n → IsDown r n i
  down_of i in' is = record {
    near = record {
      order = λ p k lo hi k_in k_not p_not. is.edge p k lo hi k_in;
      skip = λ p k lo hi lo' hi' k_in. let a = is.edge p i lo hi in' in let b = is.edge i k lo' hi' k_in in omega arith;
    };
    above = record { edge = λ p lo hi. is.edge p i lo hi in' };
  }

  module _ (r' : ℕ → ℕ) where
    -- a lesser child goes up
    pub up_step : (i j : ℕ) → IsNear r n i → j * 2 + 1 ≤ i → i ≤ j * 2 + 2 → i < n → r i < r j → IsSwapped r r' i j → IsNear r' n j × IsBelow r' n j
    up_step i j near lo hi in' less s = (
      record {
        order = λ p k a b k_in k_not p_not. elim (cases_eq p i) [
          | inl p_is ↦
              let skip = near.skip j k lo hi (omega (arith, p_is)) (omega (arith, p_is)) k_in in
              let e : r' p ≡ r j = ap r' p_is ∙ s.at_i in
              let k_away : k ≢ i = omega (arith, p_is) in
              let f = s.others k k_away k_not in
              omega arith
          | inr p_away ↦ elim (cases_eq k i) [
            | inl k_is ↦ let same : p ≡ j = omega (arith, k_is) in absurd (p_not same)
            | inr k_away ↦
                let old = near.order p k a b k_in k_away p_away in
                let e = s.others p p_away p_not in
                let f = s.others k k_away k_not in
                omega arith
          ]
        ];
        skip = λ p k a b a' b' k_in.
            let j_away : j ≢ i = omega arith in
            let p_away : p ≢ i = omega arith in
            let p_not : p ≢ j = omega arith in
            let up = near.order p j a b (omega arith) j_away p_away in
            let e = s.others p p_away p_not in
            elim (cases_eq k i) [
              | inl k_is ↦ let f : r' k ≡ r j = ap r' k_is ∙ s.at_i in omega arith
              | inr k_away ↦
                  let k_not : k ≢ j = omega arith in
                  let side = near.order j k a' b' k_in k_away j_away in
                  let f = s.others k k_away k_not in
                  omega arith
            ];
      },
      record {
        edge = λ k a b k_in.
            let e = s.at_j in
            elim (cases_eq k i) [
              | inl k_is ↦ let f : r' k ≡ r j = ap r' k_is ∙ s.at_i in omega arith
              | inr k_away ↦
                  let k_not : k ≢ j = omega arith in
                  let j_away : j ≢ i = omega arith in
                  let side = near.order j k a b k_in k_away j_away in
                  let f = s.others k k_away k_not in
                  omega arith
            ];
      },
    )

    -- the lesser child takes the place of a greater parent
    pub down_step : (i c : ℕ) → IsNear r n i → IsAbove r i → i * 2 + 1 ≤ c → c ≤ i * 2 + 2 → c < n → r c < r i → ((k : ℕ) → i * 2 + 1 ≤ k → k ≤ i * 2 + 1 + 1 → k < n → r c ≤ r k) → IsSwapped r r' i c → IsDown r' n c
    down_step i c near above lo hi in' less least s = record {
      near = record {
        order = λ p k a b k_in k_not p_not. elim (cases_eq p i) [
          | inl p_is ↦
              let k_away : k ≢ i = omega (arith, p_is) in
              let side = least k (omega (arith, p_is)) (omega (arith, p_is)) k_in in
              let e : r' p ≡ r c = ap r' p_is ∙ s.at_i in
              let f = s.others k k_away k_not in
              omega arith
          | inr p_away ↦ elim (cases_eq k i) [
            | inl k_is ↦
                let up = near.skip p c (omega (arith, k_is)) (omega (arith, k_is)) lo hi in' in
                let e = s.others p p_away p_not in
                let f : r' k ≡ r c = ap r' k_is ∙ s.at_i in
                omega arith
            | inr k_away ↦
                let old = near.order p k a b k_in k_away p_away in
                let e = s.others p p_away p_not in
                let f = s.others k k_away k_not in
                omega arith
          ]
        ];
        skip = λ p k a b a' b' k_in.
            let p_is : p ≡ i = omega arith in
            let e : r' p ≡ r c = ap r' p_is ∙ s.at_i in
            let k_away : k ≢ i = omega arith in
            let k_not : k ≢ c = omega arith in
            let c_away : c ≢ i = omega arith in
            let old = near.order c k a' b' k_in k_away c_away in
            let f = s.others k k_away k_not in
            omega arith;
      };
      above = record {
        edge = λ p a b.
            let p_is : p ≡ i = omega arith in
            let e : r' p ≡ r c = ap r' p_is ∙ s.at_i in
            let f = s.at_j in
            omega arith;
      };
    }

-- the timer has come up to `at`
pub record IsUp (first heap : List Timer) (places : List ℕ) (reach reach' start at : ℕ) : Type 0 where
  pub within : at < length heap
  pub start_in : start < length heap
  pub near : IsNear (rank_at heap) (length heap) at
  pub below : at ≢ start → IsBelow (rank_at heap) (length heap) at
  pub tied : IsTied heap places
  pub same : IsPermutation first heap
  pub left : reach' ≡ reach

-- the timer has come down to `at`
pub record IsSinking (first heap : List Timer) (places : List ℕ) (reach reach' at : ℕ) : Type 0 where
  pub within : at < length heap
  pub down : IsDown (rank_at heap) (length heap) at
  pub tied : IsTied heap places
  pub same : IsPermutation first heap
  pub left : reach' ≡ reach

pub up_done : (first heap : List Timer) (places : List ℕ) (reach reach' start at : ℕ) → IsUp first heap places reach reach' start at → IsAbove (rank_at heap) at → IsDown (rank_at heap) (length heap) start
up_done first heap places reach reach' start at is above = elim (cases_eq at start) [
  | inl same ↦ subst (λ i. IsDown (rank_at heap) (length heap) i) same (record { near = is.near; above = above })
  | inr differs ↦ down_of (rank_at heap) (length heap) start is.start_in (ordered_of (rank_at heap) (length heap) at is.near above (is.below differs))
]

pub up_more : (first heap heap' : List Timer) (places places' : List ℕ) (reach reach' reach'' start at parent : ℕ) → IsUp first heap places reach reach' start at → parent * 2 + 1 ≤ at → at ≤ parent * 2 + 2 → rank_at heap at < rank_at heap parent → SwappedAt heap heap' at parent → IsPermutation heap heap' → length heap' ≡ length heap → IsTied heap' places' → reach'' ≡ reach' → IsUp first heap' places' reach reach'' start parent
up_more first heap heap' places places' reach reach' reach'' start at parent is lo hi less s perm long tied left =
    let step = up_step (rank_at heap) (length heap) (rank_at heap') at parent is.near lo hi is.within less (ranks_swapped heap heap' at parent s) in
    let w = is.within in let w' = is.start_in in record {
      within = omega arith;
      start_in = omega arith;
      near = subst (λ n. IsNear (rank_at heap') n parent) (sym long) step.0;
      below = λ _. subst (λ n. IsBelow (rank_at heap') n parent) (sym long) step.1;
      tied = tied;
      same = IsPermutation-trans first heap heap' is.same perm;
      left = left ∙ is.left;
    }

pub sunk_more : (first heap heap' : List Timer) (places places' : List ℕ) (reach reach' reach'' at child : ℕ) → IsSinking first heap places reach reach' at → at * 2 + 1 ≤ child → child ≤ at * 2 + 2 → child < length heap → rank_at heap child < rank_at heap at → ((k : ℕ) → 2 * at + 1 ≤ k → k ≤ 2 * at + 1 + 1 → k < length heap → rank_at heap child ≤ rank_at heap k) → SwappedAt heap heap' at child → IsPermutation heap heap' → length heap' ≡ length heap → IsTied heap' places' → reach'' ≡ reach' → IsSinking first heap' places' reach reach'' child
sunk_more first heap heap' places places' reach reach' reach'' at child is lo hi in' less least s perm long tied left =
    let step = down_step (rank_at heap) (length heap) (rank_at heap') at child is.down.near is.down.above lo hi in' less (λ k a b d. least k (omega arith) (omega arith) d) (ranks_swapped heap heap' at child s) in record {
      within = omega arith;
      down = subst (λ n. IsDown (rank_at heap') n child) (sym long) step;
      tied = tied;
      same = IsPermutation-trans first heap heap' is.same perm;
      left = left ∙ is.left;
    }

pub not_before : (b : Bool) (x y : ℕ) → IsTrue b ↔ (x < y) → b ≡ false → y ≤ x
not_before b x y t e =
    let no-less : x < y → ⊥ = λ l. let h = t.1 l in cc in
    omega arith

pub above_of : (r : ℕ → ℕ) (at : ℕ) → r ((at - 1) / 2) ≤ r at → IsAbove r at
above_of r at le = record {
  edge = λ p lo hi. let same : (at - 1) / 2 ≡ p = omega arith in subst (λ x. r x ≤ r at) same le;
}

pub above_root : (r : ℕ → ℕ) (at : ℕ) → at ≤ 0 → IsAbove r at
above_root r at z = record { edge = λ p lo hi. absurd (omega arith) }
