-- Tags of keys, and marks for them.
use Rattle.std.specs.Prelude.{◌≡◌, ℕ, ◌+◌, ◌*◌, ◌-◌, ◌%◌, nat_lt, List, length, if◌then◌else◌, slice_index}
use Rattle.std.specs.List.{All}
use Rattle.http_messages.specs.Environ.{Pair}

-- of the length and the last two bytes
abbrev pub tag_of : List ℕ → ℕ
tag_of key =
    if nat_lt (length key) 2 then 0
    else (length key % 256 + 31 * slice_index key (length key - 1) + 7 * slice_index key (length key - 2)) % 256

-- the tag of each pair's key has a mark
pub record AreMarked (marks : List ℕ) (pairs : List Pair) : Type 0 where
  pub full : length marks ≡ 256
  pub marked : All (λ p. slice_index marks (tag_of p.0) ≡ 1) pairs
