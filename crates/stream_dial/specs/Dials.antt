-- What dialled streams mean, and what each call changes.
use Rattle.std.specs.Prelude.{◌≡◌, ◌≢◌, ℕ, ◌≤◌, true, false, List, [], ◌∷◌, ◌++◌, length, Option, Some, None}
use Rattle.stream_net.specs.declared.net.ReadEnd.{ReadEnd}
use Rattle.stream_net.specs.declared.net.WriteEnd.{WriteEnd}
use Rattle.stream_net.specs.Net.{Changes, Connection, IsLive, IsNew, NetMeaning, closed_at, connection_at}
use Rattle.stream_net.specs.Reads.{Reads}
use Rattle.stream_net.specs.Writes.{Writes}

-- The streams that were ever opened, in order; the moment at which each was; the number of the stream that was opened
-- last in each slot; the port towards which the next is opened, where it is opened towards one; and the moment.
pub record DialMeaning : Type 0 where
  pub streams : List Connection
  pub opened : List ℕ
  pub slots : ℕ → Option ℕ
  pub towards : Option ℕ
  pub moment : ℕ

-- the streams as the connections of a net that listens nowhere
abbrev pub net_of : List Connection → ℕ → NetMeaning
net_of streams moment = record { connections = streams; most = 0; moment = moment; listens = None; faults = 0; blocked = false }

-- no stream was opened yet
pub record HasOpenedNone (m : DialMeaning) : Type 0 where
  pub none : m.streams ≡ []
  pub none_at : m.opened ≡ []

-- the stream in the slot is open
pub record IsOpen (m : DialMeaning) (slot : ℕ) : Type 0 where
  pub number : ℕ
  pub is : m.slots slot ≡ Some number
  pub live : IsLive (net_of m.streams m.moment) number

-- no stream was opened or changed its slot, and the next is opened towards the same
pub record OpensNone (v w : DialMeaning) : Type 0 where
  pub opened : w.opened ≡ v.opened
  pub slots : w.slots ≡ v.slots
  pub towards : w.towards ≡ v.towards

-- one more stream, of the next number, in a slot in which none was open
pub record Opens (v w : DialMeaning) (slot : ℕ) : Type 0 where
  pub was_free : (number : ℕ) → v.slots slot ≡ Some number → (connection_at v.streams number).closed ≡ true
  pub stream : Connection
  pub streams : w.streams ≡ v.streams ++ stream ∷ []
  pub is_new : IsNew stream w.moment
  pub opened : w.opened ≡ v.opened ++ w.moment ∷ []
  pub number : w.slots slot ≡ Some (length v.streams)
  pub others : (other : ℕ) → other ≢ slot → w.slots other ≡ v.slots other
  pub towards : w.towards ≡ v.towards
  pub moment : v.moment ≤ w.moment

-- the streams stay as they were; the moment doesn't fall
pub record StaysDialled (v w : DialMeaning) : Type 0 where
  pub streams : w.streams ≡ v.streams
  pub none : OpensNone v w
  pub moment : v.moment ≤ w.moment

-- a read of the stream in the slot
pub record ReadsIn (v w : DialMeaning) (slot : ℕ) (answer : ReadEnd) (bytes : List ℕ) : Type 0 where
  pub reads : (number : ℕ) → v.slots slot ≡ Some number → Reads (net_of v.streams v.moment) (net_of w.streams w.moment) number answer bytes
  pub none : OpensNone v w

-- a write to the stream in the slot
pub record WritesIn (v w : DialMeaning) (slot : ℕ) (answer : WriteEnd) (bytes : List ℕ) : Type 0 where
  pub writes : (number : ℕ) → v.slots slot ≡ Some number → Writes (net_of v.streams v.moment) (net_of w.streams w.moment) number answer bytes
  pub none : OpensNone v w

-- the stream in the slot is closed, at this moment
pub record ClosesIn (v w : DialMeaning) (slot : ℕ) : Type 0 where
  pub closes : (number : ℕ) → v.slots slot ≡ Some number → Changes (net_of v.streams v.moment) (net_of w.streams w.moment) number (closed_at w.moment)
  pub none : OpensNone v w
