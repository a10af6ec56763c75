-- What a wait does to a net.
use Rattle.std.specs.Prelude.{◌≡◌, ℕ, ◌<◌, ◌≤◌, Bool, true, false, List, Option, Some, None, IsSome, Result, Ok, Err, slice_set}
use Rattle.std.specs.List.{All}
use Rattle.gv_values.specs.Counts.{HasRisen}
use Rattle.gv_io.specs.declared.source.Failed.{Failed}
use Rattle.stream_net.specs.declared.net.Ready.{Ready}
use Rattle.stream_net.specs.declared.net.Ready.TheVariants.{Incoming, Readable, Writable, Elapsed}
use Rattle.stream_net.specs.Net.{Awake, Connection, NetMeaning, connection_at, live_count, IsAtRest}

-- a live connection that was named is awake; a closed one keeps what it was
abbrev pub woken_if : Bool → Connection → Connection
woken_if true c = c
woken_if false c = record c { quiet = Awake }

abbrev pub woken : ℕ → List Connection → List Connection
woken k cs = slice_set cs k (woken_if (connection_at cs k).closed (connection_at cs k))

-- the connections after a wait that answered so
abbrev pub named : Ready → List Connection → List Connection
named Incoming cs = cs
named (Readable k) cs = woken k cs
named (Writable k) cs = woken k cs
named Elapsed cs = cs

-- the moment asked for has come
abbrev pub HasCome : Option ℕ → ℕ → Type 0
HasCome None moment = ⊥
HasCome (Some until) moment = until ≤ moment

-- Elapsed comes only where the moment has
abbrev pub IsInTime : Ready → Option ℕ → ℕ → Type 0
IsInTime Incoming until moment = Unit {0}
IsInTime (Readable k) until moment = Unit {0}
IsInTime (Writable k) until moment = Unit {0}
IsInTime Elapsed until moment = HasCome until moment

-- when a net may be waited for: each live connection that isn't held is quiet; where one is live the wait has an end;
-- where none is, nobody was there to be accepted
pub record MayWait (m : NetMeaning) (until : Option ℕ) : Type 0 where
  pub quiet : All IsAtRest m.connections
  pub ends : 0 < live_count m.connections → IsSome until
  pub asked : live_count m.connections ≡ 0 → m.blocked ≡ true

-- what a wait leaves as it was
pub record TimePasses (v w : NetMeaning) : Type 0 where
  pub most : w.most ≡ v.most
  pub moment : v.moment ≤ w.moment
  pub listens : w.listens ≡ v.listens
  pub faults : v.faults ≤ w.faults
  pub asks_again : w.blocked ≡ false

abbrev pub Waits : NetMeaning → NetMeaning → Option ℕ → Result Ready Failed → Type 0
Waits v w until (Ok ready) = TimePasses v w × (w.connections ≡ named ready v.connections) × IsInTime ready until w.moment
Waits v w until (Err failed) = TimePasses v w × (w.connections ≡ v.connections) × HasRisen v.faults w.faults
