-- What a source and a sink in memory do.
use Rattle.std.specs.Prelude.{ℕ, ◌+◌, Bool, List, ◌++◌, length, take, drop, min, nat_lt, nat_eq, if◌then◌else◌}
use Rattle.std.specs.List.{list_any}
use Rattle.gv_values.specs.OneMore.{one_more}

-- a source in memory
pub record SourceState : Type 0 where
  -- the bytes that are left
  pub left : List ℕ
  -- the most that one read gives
  pub piece : ℕ
  -- the numbers of the reads that fail, counted from 0
  pub failing : List ℕ
  -- how many reads there were
  pub calls : ℕ
  -- how many of these failed
  pub faults : ℕ

-- the next read is one of those that fail
abbrev pub fails_next : SourceState → Bool
fails_next s = list_any (nat_eq s.calls) s.failing

-- how many bytes a read into so much room gives
abbrev pub given : SourceState → ℕ → ℕ
given s room = min (min s.piece room) (length s.left)

-- after a read that failed
abbrev pub after_fault : SourceState → SourceState
after_fault s = record s { calls = one_more s.calls; faults = one_more s.faults }

-- after a read that gave so many bytes
abbrev pub after_read : SourceState → ℕ → SourceState
after_read s count = record s { left = drop count s.left; calls = one_more s.calls }

-- a sink in memory
pub record SinkState : Type 0 where
  -- the bytes that were written
  pub bytes : List ℕ
  -- how many it takes in all
  pub room : ℕ
  -- how many writes failed
  pub faults : ℕ

-- these bytes go past the room
abbrev pub is_past_room : SinkState → List ℕ → Bool
is_past_room s bytes = nat_lt s.room (length s.bytes + length bytes)

-- after a write: as many of the bytes are added as there is room for, and a write past the room is a fault
abbrev pub after_write : SinkState → List ℕ → SinkState
after_write s bytes = record s {
  bytes = take s.room (s.bytes ++ bytes);
  faults = if is_past_room s bytes then one_more s.faults else s.faults;
}
