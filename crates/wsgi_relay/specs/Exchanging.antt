-- One request that was handed on, and its stream.
use Rattle.std.specs.Prelude.{◌≡◌, ℕ, ◌+◌, ◌^◌, ◌<◌, ◌≤◌, Bool, true, false, None, List, [], ◌++◌, length, take, is_some, Some, IfSome, slice_set}
use Rattle.http_messages.specs.Environ.{Pair}
use Rattle.stream_net.specs.Net.{Connection, connection_at}
use Rattle.stream_dial.specs.Dials.{DialMeaning, OpensNone}
use Rattle.relay_core.specs.Message.{scgi_head}
use Rattle.relay_core.specs.Replies.{IsReading, relayed}
use Rattle.relay_core.specs.declared.reader.Far.{Far}
use Rattle.relay_core.specs.declared.reader.Far.TheVariants.{GoesOn, Ended, Broken, Late}
use Rattle.wsgi_relay.specs.declared.exchange.Exchange.{Exchange}

-- this holds of the stream in the slot
abbrev pub OfSlot : DialMeaning → ℕ → (Connection → Type 0) → Type 0
OfSlot m slot P = (number : ℕ) → m.slots slot ≡ Some number → P (connection_at m.streams number)

-- The stream in the slot is changed, and isn't closed. No other is changed, and none is opened; the moment doesn't fall.
pub record GoesOnIn (v w : DialMeaning) (slot : ℕ) : Type 0 where
  pub streams : (number : ℕ) → v.slots slot ≡ Some number → w.streams ≡ slice_set v.streams number (connection_at w.streams number)
  pub same_closed : (number : ℕ) → v.slots slot ≡ Some number → (connection_at w.streams number).closed ≡ (connection_at v.streams number).closed
  pub none : OpensNone v w
  pub moment : v.moment ≤ w.moment

-- nothing was sent, read or failed yet of what hands on this environ with a body of this length
pub record IsBegun (x : Exchange) (environ : List Pair) (body_length : ℕ) : Type 0 where
  pub head : x.head ≡ scgi_head environ body_length
  pub short : length x.head + body_length < 2 ^ 64
  pub unsent : x.sent ≡ 0
  pub unread : IsReading [] x.reader
  pub unfailed : x.failed ≡ false

-- it is of the same request, with the same head and deadline
pub record IsSameExchange (x y : Exchange) : Type 0 where
  pub conn : y.conn ≡ x.conn
  pub head : y.head ≡ x.head
  pub is_head : y.reader.is_head ≡ x.reader.is_head
  pub until : y.until ≡ x.until

-- what was written to the stream begins the message, of which the body stands elsewhere
pub record IsSent (s : Connection) (x : Exchange) (body : List ℕ) : Type 0 where
  pub short : length x.head + length body < 2 ^ 64
  pub within : x.sent ≤ length x.head + length body
  pub written : IfSome s.written (λ out. out ≡ take x.sent (x.head ++ body))

-- whether a read or a write of the stream failed
abbrev pub IsNoted : Bool → ℕ → Type 0
IsNoted true faults = 0 < faults
IsNoted false faults = faults ≡ 0

-- what was read from the stream was fed to the reader
pub record IsHeard (s : Connection) (x : Exchange) : Type 0 where
  pub fed : List ℕ
  pub read : IfSome s.read (λ got. got ≡ fed)
  pub reading : IsReading fed x.reader
  pub noted : IsNoted x.failed s.faults

-- the stream is that of the exchange, whose body is this
pub record IsExchanging (s : Connection) (x : Exchange) (body : List ℕ) : Type 0 where
  pub sent : IsSent s x body
  pub heard : IsHeard s x

-- the reply is decided, whatever else comes
abbrev pub IsDecided : Exchange → Type 0
IsDecided x = (fed : List ℕ) → IsReading fed x.reader → is_some (relayed x.reader.is_head GoesOn fed) ≡ true

-- How far the stream has come, as it shows itself. An end behind a fault is no end, for what came may be cut off; but a
-- reply that is decided counts, whatever failed.
abbrev pub HasShown : Far → Connection → Exchange → Type 0
HasShown GoesOn s x = IsDecided x
HasShown Ended s x = (s.ended ≡ true) × (s.faults ≡ 0)
HasShown Broken s x = 0 < s.faults
HasShown Late s x = ⊥

-- at least so many bytes were fed; where there were any, they don't decide the reply
pub record HasFed (x : Exchange) (n : ℕ) : Type 0 where
  pub fed : List ℕ
  pub reading : IsReading fed x.reader
  pub many : n ≤ length fed
  pub undecided : 0 < n → relayed x.reader.is_head GoesOn fed ≡ None
