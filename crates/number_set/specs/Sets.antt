-- Sets of numbers.
use Rattle.std.specs.Prelude.{ℕ, ◌==◌, Bool, List, [], ◌∷◌, ◌++◌, if◌then◌else◌}
use Rattle.std.specs.List.{list_any}

-- what contracts see of a set: its numbers in the order in which they came, and how many numbers have a place
pub record SeenSet : Type 0 where
  pub list : List ℕ
  pub room : ℕ

-- no number
abbrev pub no_numbers : SeenSet
no_numbers = record { list = []; room = 0 }

-- the number is one of these
abbrev pub is_among : ℕ → List ℕ → Bool
is_among k ks = list_any (λ j. j == k) ks

-- the number too, at the end where it is new
abbrev pub inserted : ℕ → List ℕ → List ℕ
inserted k ks = if is_among k ks then ks else ks ++ k ∷ []
