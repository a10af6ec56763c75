-- What the bytes of a page are.
use Rattle.std.specs.Prelude.{◌≡◌, ◌==◌, ℕ, ◌<◌, List, length, take}
use Rattle.std.specs.List.{slice_split}
use Rattle.std.specs.Str.{IsUtf8}
use Rattle.gv_io.specs.Memory.{SinkState}

-- the words of the bytes, which LFs part; bytes that are no UTF-8 have any
abbrev pub AreWords : List ℕ → List (List ℕ) → Type 0
AreWords bytes words = IsUtf8 bytes → words ≡ slice_split (λ b. b == 10) bytes

-- for how many bytes there is room, and those that were written
pub record Written : Type 0 where
  pub room : ℕ
  pub bytes : List ℕ

-- no byte more has room
abbrev pub IsFull : Written → Type 0
IsFull w = length w.bytes ≡ w.room

-- what stands in a sink
abbrev pub written_in : SinkState → Written
written_in s = record { room = s.room; bytes = s.bytes }

-- the first bytes of those that there is room for
abbrev pub first_of : ℕ → List ℕ → Written
first_of count all = record { room = length all; bytes = take count all }

-- a sink of which a write failed is full
abbrev pub IsFullWhereFailed : SinkState → Type 0
IsFullWhereFailed s = 0 < s.faults → IsFull (written_in s)
