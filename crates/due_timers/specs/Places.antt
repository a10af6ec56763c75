-- The places of items in the heap, as a table by item.
use Rattle.std.specs.Prelude.{◌≡◌, ◌≢◌, ◌⊎◌, ℕ, ◌<◌, List, slice_index_or}
use Rattle.due_timers.specs.declared.limits.TheConstants.{MOST_TIMERS}

-- the item q has the place k
abbrev pub Has : List ℕ → ℕ → ℕ → Type 0
Has places q k = (k < MOST_TIMERS) × (slice_index_or places q MOST_TIMERS ≡ k)

-- new has what old has but for the item
pub record Loses (old new : List ℕ) (item : ℕ) : Type 0 where
  pub kept : (q k : ℕ) → Has old q k → q ≢ item → Has new q k
  pub gone : (k : ℕ) → Has new item k → ⊥
  pub only : (q k : ℕ) → Has new q k → Has old q k

-- new has the item with the place, and of the others what old has
pub record Moves (old new : List ℕ) (item place : ℕ) : Type 0 where
  pub kept : (q k : ℕ) → Has old q k → q ≢ item → Has new q k
  pub here : Has new item place
  pub only : (q k : ℕ) → Has new q k → (Has old q k × (q ≢ item)) ⊎ ((q ≡ item) × (k ≡ place))
