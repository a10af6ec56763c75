-- A list of bytes that goes on from another.
use Rattle.std.specs.Prelude.{◌≡◌, ℕ, List, ◌++◌}

-- the whole begins with the front
pub record BeginsWith (whole front : List ℕ) : Type 0 where
  pub rest : List ℕ
  pub is : whole ≡ front ++ rest
