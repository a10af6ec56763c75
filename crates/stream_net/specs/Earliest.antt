-- The earliest of the moments that the items of a list give.
use Rattle.std.specs.Prelude.{◌≡◌, ℕ, ◌<◌, ◌≤◌, List, slice_index_or, nat_le, if◌then◌else◌, Option, None, Some, IfSome}

-- of the first so many items, the one at this place gives this moment, those before it later ones or none, and none
-- gives an earlier one
pub record IsEarliestAt {A : Type 0} (moment_of : A → Option ℕ) (items : List A) (count at place : ℕ) : Type 0 where
  pub within : place < count
  pub stands : (d : A) → moment_of (slice_index_or items place d) ≡ Some at
  pub first : (j : ℕ) (d : A) → j < place → IfSome (moment_of (slice_index_or items j d)) (λ other. at < other)
  pub least : (j : ℕ) (d : A) → j < count → IfSome (moment_of (slice_index_or items j d)) (λ other. at ≤ other)

-- the earliest moment with its first place, or none where no item gives one
abbrev pub IsEarliest : {A : Type 0} → (A → Option ℕ) → List A → ℕ → Option (ℕ × ℕ) → Type 0
IsEarliest {A} moment_of items count None = (j : ℕ) (d : A) → j < count → moment_of (slice_index_or items j d) ≡ None
IsEarliest moment_of items count (Some first) = IsEarliestAt moment_of items count first.0 first.1

-- the earlier of the first so far and another at this place: the first stays where both are equal
abbrev pub sooner : Option (ℕ × ℕ) → Option ℕ → ℕ → Option (ℕ × ℕ)
sooner first None place = first
sooner None (Some at) place = Some (at, place)
sooner (Some first) (Some at) place = if nat_le first.0 at then Some first else Some (at, place)
