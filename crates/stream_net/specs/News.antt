-- What there is to tell of those that wait and of the connections.
use Rattle.std.specs.Prelude.{◌≡◌, ℕ, ◌<◌, nat_lt, nat_le, max, min, if◌then◌else◌, Bool, false, not, ◌&&◌, ◌||◌, List, length, slice_index_or, Option, Some, None, option_map}
use Rattle.std.specs.List.{find, list_any}
use Rattle.stream_net.specs.declared.memory_endpoint.MemoryEndpoint.{MemoryEndpoint}
use Rattle.stream_net.specs.declared.net.Ready.{Ready}
use Rattle.stream_net.specs.declared.net.Ready.TheVariants.{Incoming, Readable, Writable, Elapsed}
use Rattle.stream_net.specs.declared.script.ConnScript.{ConnScript}
use Rattle.stream_net.specs.declared.script.Piece.{Piece}
use Rattle.stream_net.specs.MemoryEndpoints.{is_past, until_end}

-- what comes at this moment was told already
abbrev pub was_told : Option ℕ → ℕ → Bool
was_told None at = false
was_told (Some by) at = nat_le at by

-- what comes at `at` has come by this moment, and wasn't told
abbrev pub is_news : Option ℕ → ℕ → ℕ → Bool
is_news told moment at = nat_le at moment && not (was_told told at)

-- somebody who waits to be accepted came and wasn't told of
abbrev pub has_caller : List ConnScript → Option ℕ → ℕ → Bool
has_caller waiting told moment = list_any (λ s. is_news told moment s.arrives) waiting

abbrev pub end_is_news : Option ℕ → Option ℕ → ℕ → Bool
end_is_news None told moment = false
end_is_news (Some end) told moment = is_news told moment end

abbrev pub has_piece : List Piece → Option ℕ → ℕ → Bool
has_piece pieces told moment = list_any (λ p. is_news told moment p.at) pieces

-- bytes or the end came to the connection and weren't told; none come behind the end
abbrev pub has_news : MemoryEndpoint → ℕ → Bool
has_news l moment = has_piece l.script.pieces l.told (until_end l.script.ends moment) || end_is_news l.script.ends l.told moment

-- what an open connection of this number has to tell: that it takes bytes again, before what came to it
abbrev pub told_of : MemoryEndpoint → ℕ → ℕ → Option Ready
told_of l k moment = if l.account.closed then None else if l.waits then Some (Writable k) else if has_news l moment then Some (Readable k) else None

-- the connections below this number have nothing to tell
abbrev pub AreSilent : List MemoryEndpoint → ℕ → ℕ → Type 0
AreSilent endpoints count moment = (j : ℕ) (d : MemoryEndpoint) → j < count → told_of (slice_index_or endpoints j d) j moment ≡ None

-- this is told by the first connection that has something to tell
pub record IsToldFirst (endpoints : List MemoryEndpoint) (moment : ℕ) (ready : Ready) : Type 0 where
  pub number : ℕ
  pub within : number < length endpoints
  pub tells : (d : MemoryEndpoint) → told_of (slice_index_or endpoints number d) number moment ≡ Some ready
  pub silent : AreSilent endpoints number moment

-- ---- what comes later

-- whoever waits and has come by this moment, at his moment; whoever comes later, at his
abbrev pub has_come : ℕ → ConnScript → Option ℕ
has_come moment s = if nat_le s.arrives moment then Some s.arrives else None

abbrev pub comes_later : ℕ → ConnScript → Option ℕ
comes_later moment s = if nat_lt moment s.arrives then Some s.arrives else None

-- the earlier of a piece and the end
abbrev pub before_end : Option ℕ → Option ℕ → Option ℕ
before_end None end = end
before_end (Some at) None = Some at
before_end (Some at) (Some end) = Some (min at end)

-- the moment of the first piece behind this one
abbrev pub piece_after : List Piece → ℕ → Option ℕ
piece_after pieces moment = option_map (λ p. p.at) (find (λ p. nat_lt moment p.at) pieces)

-- the moment at which bytes or the end come next to an open connection
abbrev pub arrives_next : ℕ → MemoryEndpoint → Option ℕ
arrives_next moment l = if l.account.closed then None else if is_past l.script.ends moment then None else before_end (piece_after l.script.pieces moment) l.script.ends

-- what comes next, of the earliest who waits and the earliest connection: who waits goes first
abbrev pub coming : Option (ℕ × ℕ) → Option (ℕ × ℕ) → Option (ℕ × Ready)
coming None None = None
coming (Some caller) None = Some (caller.0, Incoming)
coming None (Some endpoint) = Some (endpoint.0, Readable endpoint.1)
coming (Some caller) (Some endpoint) = if nat_le caller.0 endpoint.0 then Some (caller.0, Incoming) else Some (endpoint.0, Readable endpoint.1)

-- a wait ends at the earlier of that and the moment asked for, and fails where there is neither
abbrev pub moved : Option (ℕ × Ready) → Option ℕ → ℕ → ℕ
moved None None moment = moment
moved None (Some until) moment = max until moment
moved (Some next) None moment = next.0
moved (Some next) (Some until) moment = if nat_lt until next.0 then max until moment else next.0

abbrev pub told_after : Option (ℕ × Ready) → Option ℕ → Option Ready
told_after None None = None
told_after None (Some until) = Some Elapsed
told_after (Some next) None = Some next.1
told_after (Some next) (Some until) = if nat_lt until next.0 then Some Elapsed else Some next.1
