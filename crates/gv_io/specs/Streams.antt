-- What a read takes of the bytes that are left, and what a write adds to those that were written. Where an object
-- does not tell its bytes, they are None before and after.
use Rattle.std.specs.Prelude.{◌≡◌, ℕ, List, ◌++◌, take, Option, Some, None}

-- the told bytes with these after them
unfoldable pub appended : Option (List ℕ) → List ℕ → Option (List ℕ)
appended None bytes = None
appended (Some told) bytes = Some (told ++ bytes)

-- the told bytes with these before them
unfoldable pub prepended : List ℕ → Option (List ℕ) → Option (List ℕ)
prepended bytes None = None
prepended bytes (Some told) = Some (bytes ++ told)

-- the new bytes are the old ones with a prefix of the text after them
pub record AppendsPrefix (old new : Option (List ℕ)) (text : List ℕ) : Type 0 where
  pub count : ℕ
  pub is : new ≡ appended old (take count text)

-- the new bytes begin with the old ones
pub record Extends (old new : Option (List ℕ)) : Type 0 where
  pub more : List ℕ
  pub is : new ≡ appended old more
