-- What is said of a server that ended: what each connection was sent, and why it was closed.
use Rattle.std.specs.Prelude.{◌≡◌, ◌≢◌, ℕ, ◌+◌, ◌<◌, ◌≤◌, true, false, List, ◌++◌, length, Some}
use Rattle.std.specs.List.{All}
use Rattle.wsgi_core.specs.Answer.{Sent}
use Rattle.stream_net.specs.Net.{Connection, NetMeaning, connection_at}
use Rattle.stream_net.specs.declared.net.Quiet.{Quiet}
use Rattle.stream_net.specs.declared.net.Quiet.TheVariants.{Awake, ByRead, ByWrite}

-- P holds of each connection whose bytes are told, by what was read and what was written
abbrev pub EachTold : List Connection → (Connection → List ℕ → List ℕ → Type 0) → Type 0
EachTold cs P = (k : ℕ) (bytes out : List ℕ) → k < length cs → (connection_at cs k).read ≡ Some bytes → (connection_at cs k).written ≡ Some out
    → P (connection_at cs k) bytes out

-- the bytes begin so
pub record BeginsSo (bytes front : List ℕ) : Type 0 where
  pub tail : List ℕ
  pub is : bytes ≡ front ++ tail

-- it was closed without a fault, and doesn't wait for a write
pub record IsClosedWell (c : Connection) : Type 0 where
  pub closed : c.closed ≡ true
  pub faultless : c.faults ≡ 0
  pub waits_for_no_write : c.quiet ≢ ByWrite

-- it is open, and was left to wait for bytes
pub record WaitsToRead (c : Connection) : Type 0 where
  pub still_open : c.closed ≡ false
  pub by_read : c.quiet ≡ ByRead

-- so many were accepted, and all are closed
pub record IsAllServed (m : NetMeaning) (conns : ℕ) : Type 0 where
  pub all : length m.connections ≡ conns
  pub closed : All (λ c. c.closed ≡ true) m.connections

-- it is closed, or waits by a read or by a write
abbrev pub Rests : Connection → Type 0
Rests c = c.closed ≡ false → c.quiet ≢ Awake

-- P holds of all connections, but for one at most
pub record AllBut (P : Connection → Type 0) (cs : List Connection) : Type 0 where
  pub one : ℕ
  pub others : (k : ℕ) → k ≢ one → k < length cs → P (connection_at cs k)

-- a connection rests by a write, or by a read, and then P holds
abbrev pub RestsBy : Quiet → Type 0 → Type 0
RestsBy Awake P = ⊥
RestsBy ByRead P = P
RestsBy ByWrite P = Unit {0}

-- why a connection to which these bytes were written was closed
pub data Cause (sent : Sent) (taken : List ℕ) (idle : ℕ) (c : Connection) : Type 0 where
  -- the talk closes, and all was written
  Closing : sent.closes ≡ true → taken ≡ sent.bytes → Cause sent taken idle c
  -- its input ended, and all was written
  Ended : c.ended ≡ true → taken ≡ sent.bytes → Cause sent taken idle c
  -- a read or a write of it failed
  Failing : 0 < c.faults → Cause sent taken idle c
  -- no byte went over it for so long, and it rests: by a write, or by a read after all was written
  Idle : c.last + idle ≤ c.closed_at → RestsBy c.quiet (taken ≡ sent.bytes) → Cause sent taken idle c
