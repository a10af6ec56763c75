-- A table with open addressing, as the slots that hold an item.
use Rattle.std.specs.Prelude.{◌≡◌, ◌≢◌, ◌⊎◌, ℕ, ◌%◌, ◌*◌, ◌<◌, ◌≤◌, List, Bool, true, false, count_by, slice_index_or}
use Rattle.item_places.specs.declared.places.Slot.{Slot}
use Rattle.item_places.specs.declared.places.Slot.TheVariants.{Empty, Dead, Held}

-- where the search for an item begins
abbrev pub home : ℕ → ℕ → ℕ
home q homes = q * 2654435761 % homes

-- the slot at a place
abbrev pub slot_at : List Slot → ℕ → Slot
slot_at xs p = slice_index_or xs p Empty

-- the slot was never used
abbrev pub is_empty : Slot → Bool
is_empty Empty = true
is_empty Dead = false
is_empty (Held q k) = false

-- the slot holds an item
abbrev pub is_held : Slot → Bool
is_held Empty = false
is_held Dead = false
is_held (Held q k) = true

-- the slot p holds the item q with the place k
abbrev pub HeldAt : List Slot → ℕ → ℕ → ℕ → Type 0
HeldAt xs p q k = slot_at xs p ≡ Held q k

-- the item q has the place k
abbrev pub Has : List Slot → ℕ → ℕ → Type 0
Has xs q k = (p : ℕ) × HeldAt xs p q k

-- no item stands in two slots
pub record IsOnce (xs : List Slot) : Type 0 where
  pub once : (p p' q k k' : ℕ) → HeldAt xs p q k → HeldAt xs p' q k' → p ≡ p'

-- each item stands at or after its home, with no empty slot between, and an empty slot lies after each home
pub record IsTable (xs : List Slot) (homes free : ℕ) : Type 0 where
  pub free_is : free ≡ count_by is_empty xs
  pub room : homes ≤ free
  pub from_home : (p q k : ℕ) → HeldAt xs p q k → home q homes ≤ p
  pub reached : (p q k j : ℕ) → HeldAt xs p q k → home q homes ≤ j → j < p → slot_at xs j ≡ Empty → ⊥
  pub once : IsOnce xs

-- new has what old has, and the item with its place
pub record Gains (old new : List Slot) (item place : ℕ) : Type 0 where
  pub kept : (q k : ℕ) → Has old q k → Has new q k
  pub here : Has new item place
  pub only : (q k : ℕ) → Has new q k → Has old q k ⊎ ((q ≡ item) × (k ≡ place))

-- new has what old has but for the item
pub record Loses (old new : List Slot) (item : ℕ) : Type 0 where
  pub kept : (q k : ℕ) → Has old q k → q ≢ item → Has new q k
  pub gone : (k : ℕ) → Has new item k → ⊥
  pub only : (q k : ℕ) → Has new q k → Has old q k

-- both hold the same items with the same places
pub record SameHeld (old new : List Slot) : Type 0 where
  pub kept : (q k : ℕ) → Has old q k → Has new q k
  pub only : (q k : ℕ) → Has new q k → Has old q k

-- new has the item with the place, and of the others what old has
pub record Moves (old new : List Slot) (item place : ℕ) : Type 0 where
  pub kept : (q k : ℕ) → Has old q k → q ≢ item → Has new q k
  pub here : Has new item place
  pub only : (q k : ℕ) → Has new q k → (Has old q k × (q ≢ item)) ⊎ ((q ≡ item) × (k ≡ place))
