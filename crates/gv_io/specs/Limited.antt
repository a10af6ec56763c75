-- What a read to a limit takes of a source.
use Rattle.std.specs.Prelude.{◌≡◌, ℕ, ◌≤◌, List, length, Option}
use Rattle.gv_io.specs.Streams.{prepended}

-- at most so many of the bytes that were left were taken off their front
pub record TakesAtMost (most : ℕ) (old new : Option (List ℕ)) : Type 0 where
  pub front : List ℕ
  pub fits : length front ≤ most
  pub is : old ≡ prepended front new
