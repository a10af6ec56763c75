-- Lists of numbers that rise: one more behind them, one that leaves, and one that a binary search finds.
use Rattle.std.proofs.Common.{◌≡◌, ℕ, zero, suc, ◌<◌, ◌≤◌, ◌==◌, Bool, true, false, not, cond, List, [], ◌∷◌, ◌++◌, length, Some, ap, ◌∙◌, sym, subst, arith, slice_get, get_or, inl, inr}
use Rattle.std.proofs.lemmas.Bool.{cases_lt}
use Rattle.std.proofs.lemmas.Option.{slice_get-get_or}
use Rattle.std.specs.List.{Contains, remove}
use Rattle.item_places.specs.Items.{without_number, Lacks, Differ}
use Rattle.item_places.proofs.ItemLemmas.{test_keeps, test_drops, without_absent}
use Rattle.stream_server.specs.Members.{AreAbove, AreBelow, IsRising}

above_last : (m g : ℕ) (ms : List ℕ) → m < g → AreAbove m ms → AreAbove m (ms ++ g ∷ [])
above_last m g [] lt h = (lt, tt)
above_last m g (x ∷ ms) lt h = (h.0, above_last m g ms lt h.1)

pub rising_last : (g : ℕ) (ms : List ℕ) → AreBelow g ms → IsRising ms → IsRising (ms ++ g ∷ [])
rising_last g [] below r = (tt, tt)
rising_last g (m ∷ ms) below r = (above_last m g ms below.0 r.0, rising_last g ms below.1 r.1)

above_at : (m : ℕ) (ms : List ℕ) (k : ℕ) → AreAbove m ms → k < length ms → m < get_or ms k 0
above_at m [] k h lt = absurd (omega arith)
above_at m (x ∷ ms) zero h lt = h.0
above_at m (x ∷ ms) (suc k) h lt = above_at m ms k h.1 (omega arith)

pub rising_at : (ms : List ℕ) → IsRising ms → (i j : ℕ) → i ≤ j → j < length ms → get_or ms i 0 ≤ get_or ms j 0
rising_at [] r i j le lt = absurd (omega arith)
rising_at (m ∷ ms) r zero zero le lt = omega arith
rising_at (m ∷ ms) r zero (suc j) le lt = let a = above_at m ms j r.0 (omega arith) in omega arith
rising_at (m ∷ ms) r (suc i) zero le lt = absurd (omega arith)
rising_at (m ∷ ms) r (suc i) (suc j) le lt = rising_at ms r.1 i j (omega arith) (omega arith)

above_lacks : (m : ℕ) (ms : List ℕ) → AreAbove m ms → Lacks m ms
above_lacks m [] h = tt
above_lacks m (x ∷ ms) h = (λ e. let lt = h.0 in omega arith, above_lacks m ms h.1)

above_found : (m g : ℕ) (ms : List ℕ) (k : ℕ) → AreAbove m ms → slice_get ms k ≡ Some g → m < g
above_found m g [] k h at = absurd (cc)
above_found m g (x ∷ ms) zero h at = let same : x ≡ g = cc in subst (λ y. m < y) same h.0
above_found m g (x ∷ ms) (suc k) h at = above_found m g ms k h.1 at

pub removed_is : (ms : List ℕ) (k g : ℕ) → IsRising ms → slice_get ms k ≡ Some g → remove ms k ≡ without_number g ms
removed_is [] k g r at = absurd (cc)
removed_is (m ∷ ms) zero g r at =
    let same : m ≡ g = cc in
    rw (test_drops m g same) (sym (without_absent g ms (subst (λ y. Lacks y ms) same (above_lacks m ms r.0))))
removed_is (m ∷ ms) (suc k) g r at =
    let lt = above_found m g ms k r.0 at in
    rw (test_keeps m g (λ e. omega arith)) (ap (λ l. m ∷ l) (removed_is ms k g r.1 at))

above_without : (m g : ℕ) (ms : List ℕ) → AreAbove m ms → AreAbove m (without_number g ms)
above_without m g [] h = tt
above_without m g (x ∷ ms) h = by (not (x == g)) (above_without m g ms h.1)
  where
    by : (b : Bool) → AreAbove m (without_number g ms) → AreAbove m (cond b (x ∷ without_number g ms) (without_number g ms))
    by true more = (h.0, more)
    by false more = more

pub rising_without : (g : ℕ) (ms : List ℕ) → IsRising ms → IsRising (without_number g ms)
rising_without g [] r = tt
rising_without g (m ∷ ms) r = by (not (m == g)) (rising_without g ms r.1)
  where
    by : (b : Bool) → IsRising (without_number g ms) → IsRising (cond b (m ∷ without_number g ms) (without_number g ms))
    by true more = (above_without m g ms r.0, more)
    by false more = more

-- what the binary search found
pub found_at : (ms : List ℕ) (g i : ℕ) → (i < length ms) × (get_or ms i 0 ≡ g) → slice_get ms i ≡ Some g
found_at ms g i (lt, is) = slice_get-get_or ms i 0 lt ∙ ap Some is

-- and that it found the one that is there
pub not_missed : (ms : List ℕ) (g i : ℕ) → Contains ms g → (i ≤ length ms) × ((k : ℕ) → k < i → get_or ms k 0 < g) × ((k : ℕ) → i ≤ k → k < length ms → g < get_or ms k 0) → ⊥
not_missed ms g i there (le, below, above) =
    let at : get_or ms there.0 0 ≡ g = contains_place ms g there in
    elim (cases_lt there.0 i) [
      | inl lt ↦ (let a = below there.0 lt in omega arith)
      | inr ge ↦ (let a = above there.0 ge there.1 in omega arith)
    ]
  where
    contains_place : (ms : List ℕ) (g : ℕ) (c : Contains ms g) → get_or ms c.0 0 ≡ g
    contains_place [] g (k, lt, at) = absurd (omega arith)
    contains_place (m ∷ ms) g (zero, lt, at) = at
    contains_place (m ∷ ms) g (suc k, lt, at) = contains_place ms g (k, omega arith, at)

-- numbers that rise differ
pub rising_differ : (ms : List ℕ) → IsRising ms → Differ ms
rising_differ [] r = tt
rising_differ (m ∷ ms) r = (above_lacks m ms r.0, rising_differ ms r.1)
