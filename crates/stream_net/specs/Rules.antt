-- The rules of a net in memory: how each call goes by the scripts.
use Rattle.std.specs.Prelude.{◌≡◌, ℕ, ◌+◌, ◌-◌, ◌^◌, min, Bool, true, false, List, [], ◌∷◌, ◌++◌, length, slice_get, slice_index_or, slice_set, Option, Some, None, Result, Ok, Err}
use Rattle.std.specs.List.{remove}
use Rattle.gv_io.specs.declared.source.Failed.{Failed}
use Rattle.gv_values.specs.OneMore.{one_more}
use Rattle.stream_net.specs.declared.memory_endpoint.MemoryEndpoint.{MemoryEndpoint}
use Rattle.stream_net.specs.declared.net.ReadEnd.{ReadEnd}
use Rattle.stream_net.specs.declared.net.ReadEnd.TheVariants as R
use Rattle.stream_net.specs.declared.net.Ready.{Ready}
use Rattle.stream_net.specs.declared.net.Ready.TheVariants.{Incoming, Readable, Writable, Elapsed}
use Rattle.stream_net.specs.declared.net.WriteEnd.{WriteEnd}
use Rattle.stream_net.specs.declared.net.WriteEnd.TheVariants as W
use Rattle.stream_net.specs.declared.script.ConnScript.{ConnScript}
use Rattle.stream_net.specs.Earliest.{IsEarliest, IsEarliestAt}
use Rattle.stream_net.specs.MemoryEndpoints.{has_bytes, is_failing, is_past, is_writable}
use Rattle.stream_net.specs.News.{AreSilent, IsToldFirst, arrives_next, comes_later, coming, has_caller, has_come, moved, told_after}

-- a read ends so: it fails exactly where it is the one that fails, gives bytes exactly where one has come, and then
-- ends exactly where the end has come
abbrev pub EndsRead : ReadEnd → Bool → MemoryEndpoint → ℕ → Type 0
EndsRead (R.Got n) fails l moment = (fails ≡ false) × (has_bytes l moment ≡ true)
EndsRead R.End fails l moment = (fails ≡ false) × (has_bytes l moment ≡ false) × (is_past l.script.ends moment ≡ true)
EndsRead R.WouldBlock fails l moment = (fails ≡ false) × (has_bytes l moment ≡ false) × (is_past l.script.ends moment ≡ false)
EndsRead R.Failed fails l moment = fails ≡ true

-- how many of so many bytes there is room for; behind the list for all
abbrev pub taken_of : Option ℕ → ℕ → ℕ
taken_of None count = count
taken_of (Some room) count = min count room

-- a write of so many bytes ends so: it fails exactly where it is the one that fails, and takes what there is room for,
-- or finds no memory for it
abbrev pub EndsWrite : WriteEnd → Bool → MemoryEndpoint → ℕ → Type 0
EndsWrite (W.Took n) fails l count = (fails ≡ false) × (n ≡ taken_of (slice_get l.script.room l.writes) count)
EndsWrite W.WouldBlock fails l count = (fails ≡ false) × (is_writable l ≡ false)
EndsWrite W.Failed fails l count = fails ≡ true
EndsWrite W.Memory fails l count = (fails ≡ false) × (is_writable l ≡ true)

-- the same of a connection: the one that fails is the one of the number that its script says
abbrev pub IsReadBy : ReadEnd → ℕ → MemoryEndpoint → Type 0
IsReadBy end moment l = EndsRead end (is_failing l) l moment

abbrev pub IsWrittenBy : WriteEnd → ℕ → MemoryEndpoint → Type 0
IsWrittenBy end count l = EndsWrite end (is_failing l) l count

-- a read that finds nothing finds all that has come by this moment
abbrev pub found_by : ReadEnd → ℕ → Option ℕ → Option ℕ
found_by (R.Got n) moment told = told
found_by R.End moment told = Some moment
found_by R.WouldBlock moment told = Some moment
found_by R.Failed moment told = told

-- the writes that used up a room: a failed one, and one without memory, uses none
abbrev pub writes_after : WriteEnd → ℕ → ℕ
writes_after (W.Took n) writes = min (writes + 1) (2 ^ 64 - 1)
writes_after W.WouldBlock writes = min (writes + 1) (2 ^ 64 - 1)
writes_after W.Failed writes = writes
writes_after W.Memory writes = writes

-- after a write that would block it is to be told that the connection takes bytes again
abbrev pub waits_after : WriteEnd → Bool → Bool
waits_after (W.Took n) waits = waits
waits_after W.WouldBlock waits = true
waits_after W.Failed waits = waits
waits_after W.Memory waits = waits

-- a read was counted, and else changes no more than where the next begins, what was found, and the account
abbrev pub WasRead : ReadEnd → ℕ → MemoryEndpoint → MemoryEndpoint → Type 0
WasRead end moment l m = m ≡ record l { calls = one_more l.calls; place = m.place; offset = m.offset; told = found_by end moment l.told; account = m.account }

-- a write was counted, and else changes no more than what was written, and the account
abbrev pub WasWritten : WriteEnd → MemoryEndpoint → MemoryEndpoint → Type 0
WasWritten end l m = m ≡ record l { calls = one_more l.calls; writes = writes_after end l.writes; waits = waits_after end l.waits; written = m.written; account = m.account }

-- one connection is another now
pub record Rewrites (old new : List MemoryEndpoint) (k : ℕ) (Becomes : MemoryEndpoint → MemoryEndpoint → Type 0) : Type 0 where
  pub endpoint : MemoryEndpoint
  pub endpoints : new ≡ slice_set old k endpoint
  pub becomes : (d : MemoryEndpoint) → Becomes (slice_index_or old k d) endpoint

-- what was told isn't told again, and nothing else is noted
abbrev pub IsHeard : Ready → ℕ → List MemoryEndpoint → List MemoryEndpoint → Type 0
IsHeard Incoming moment old new = new ≡ old
IsHeard (Readable k) moment old new = Rewrites old new k (λ l m. m ≡ record l { told = Some moment; account = m.account })
IsHeard (Writable k) moment old new = Rewrites old new k (λ l m. m ≡ record l { waits = false; account = m.account })
IsHeard Elapsed moment old new = new ≡ old

abbrev pub callers_told : Ready → ℕ → Option ℕ → Option ℕ
callers_told Incoming moment told = Some moment
callers_told (Readable k) moment told = told
callers_told (Writable k) moment told = told
callers_told Elapsed moment told = told

abbrev pub answered : Result Ready Failed → Option Ready
answered (Ok ready) = Some ready
answered (Err failed) = None

-- what a wait answers, and the moment at which it ends
pub data Tells (waiting : List ConnScript) (told : Option ℕ) (endpoints : List MemoryEndpoint) (moment : ℕ) (until : Option ℕ) (answer : Option Ready) (now : ℕ) : Type 0 where
  -- somebody who waits has come and wasn't told of
  Caller : has_caller waiting told moment ≡ true → answer ≡ Some Incoming → now ≡ moment → Tells waiting told endpoints moment until answer now
  -- nobody has, and the first connection that has something to tell tells it
  Voice : has_caller waiting told moment ≡ false → (ready : Ready) → IsToldFirst endpoints moment ready → answer ≡ Some ready → now ≡ moment → Tells waiting told endpoints moment until answer now
  -- there is nothing to tell until the next arrival, or until the moment asked for
  Later : has_caller waiting told moment ≡ false → AreSilent endpoints (length endpoints) moment → (caller endpoint : Option (ℕ × ℕ))
      → IsEarliest (comes_later moment) waiting (length waiting) caller → IsEarliest (arrives_next moment) endpoints (length endpoints) endpoint
      → answer ≡ told_after (coming caller endpoint) until → now ≡ moved (coming caller endpoint) until moment → Tells waiting told endpoints moment until answer now

-- of those who have come the one at this place is the first of the earliest
abbrev pub IsCalledFirst : List ConnScript → ℕ → ℕ → Type 0
IsCalledFirst waiting moment place = (at : ℕ) × IsEarliestAt (has_come moment) waiting (length waiting) at place

-- whoever was called first is accepted, and goes by his script from its start
pub record IsAccepted (waiting rest : List ConnScript) (endpoints more : List MemoryEndpoint) (moment : ℕ) : Type 0 where
  pub place : ℕ
  pub first : IsCalledFirst waiting moment place
  pub taken : rest ≡ remove waiting place
  pub endpoint : MemoryEndpoint
  pub comes : more ≡ endpoints ++ endpoint ∷ []
  pub script : (d : ConnScript) → endpoint.script ≡ slice_index_or waiting place d
  pub calls : endpoint.calls ≡ 0
  pub writes : endpoint.writes ≡ 0
  pub untold : endpoint.told ≡ None
  pub ready : endpoint.waits ≡ false
