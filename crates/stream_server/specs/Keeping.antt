-- A server between two events.
use Rattle.std.specs.Prelude.{◌≡◌, ◌≢◌, ◌⊎◌, ℕ, ◌+◌, ◌<◌, ◌≤◌, Bool, true, false, List, length, Option, Some, None, IsSome}
use Rattle.std.specs.List.{All}
use Rattle.gv_values.specs.Counts.{HasRisen}
use Rattle.stream_net.specs.Net.{Connection, NetMeaning, connection_at, live_count}
use Rattle.stream_net.specs.declared.net.Quiet.TheVariants.{Awake}
use Rattle.stream_net.specs.Waits.{TimePasses, woken}
use Rattle.stream_server.specs.declared.client.Client.{Client}
use Rattle.stream_server.specs.declared.limits.Limits.{Limits}
use Rattle.stream_server.specs.Protocols.{Apps, Protocol, Side, side_of}
use Rattle.stream_server.specs.Serving.{AllBut}
use Rattle.stream_server.specs.Speeches.{IsServed}
use Rattle.stream_server.specs.Steps.{IsCalm, IsOpen}

-- what is listed under a number
abbrev pub Listing : Type 0 → Type 1
Listing T = ℕ → Option (Client T) → Type 0

-- what the server keeps of a connection against what the net means by it: it keeps nothing of a closed one, and an
-- open one rests or is held
abbrev pub IsKept : {T : Type 0} → Side T → ℕ → List Connection → ℕ → Option (Client T) → Type 0
IsKept S idle cs k None = k < length cs → (connection_at cs k).closed ≡ true
IsKept S idle cs k (Some g) = (k < length cs) × IsOpen S idle (connection_at cs k) g × IsCalm S idle (connection_at cs k) g

-- it is held, as some talks are
pub record IsHeldAt {T : Type 0} (holds : T → Bool) (c : Connection) : Type 0 where
  pub held : c.held ≡ true
  pub talk : T
  pub is_held : holds talk ≡ true

-- it is closed, or waits by a read or by a write, or is held
abbrev pub IsStill : {T : Type 0} → (T → Bool) → Connection → Type 0
IsStill holds c = c.closed ≡ false → (c.quiet ≢ Awake) ⊎ IsHeldAt holds c

-- each connection is served by its own application
abbrev pub EachServed : {T : Type 0} → Protocol T → Apps → ℕ → ℕ → List Connection → Type 0
EachServed P apps port idle cs = (k : ℕ) → k < length cs → IsServed (P.said (apps k) port) idle (connection_at cs k)

-- all connections rest or are held, and each open one has its client
pub record IsServing {T : Type 0} (P : Protocol T) (apps : Apps) (port : ℕ) (limits : Limits) (m : NetMeaning) (listed : Listing T) (count room : ℕ) : Type 0 where
  pub served : EachServed P apps port limits.idle m.connections
  pub resting : All (IsStill P.holds) m.connections
  pub kept : (k : ℕ) (slot : Option (Client T)) → listed k slot → IsKept (side_of P (apps k) port) limits.idle m.connections k slot
  pub live : live_count m.connections ≡ count
  pub few : count ≤ limits.pool
  pub most : m.most ≤ limits.pool
  pub listens : IsSome m.listens
  pub room_is : room ≡ limits.pool
  pub within : length m.connections ≤ limits.conns

-- the same but for one connection, whose client isn't listed
pub record IsServingBut {T : Type 0} (P : Protocol T) (apps : Apps) (port : ℕ) (limits : Limits) (m : NetMeaning) (listed : Listing T) (count room k : ℕ) : Type 0 where
  pub served : (j : ℕ) → j ≢ k → j < length m.connections → IsServed (P.said (apps j) port) limits.idle (connection_at m.connections j)
  pub resting : (j : ℕ) → j ≢ k → j < length m.connections → IsStill P.holds (connection_at m.connections j)
  pub kept : (j : ℕ) (slot : Option (Client T)) → j ≢ k → listed j slot → IsKept (side_of P (apps j) port) limits.idle m.connections j slot
  pub only : (slot : Option (Client T)) → listed k slot → slot ≡ None
  pub live : live_count m.connections ≡ count + 1
  pub few : count + 1 ≤ limits.pool
  pub most : m.most ≤ limits.pool
  pub listens : IsSome m.listens
  pub room_is : room ≡ limits.pool
  pub within : length m.connections ≤ limits.conns

-- what holds of all connections whenever the server ends
pub record IsLeft {T : Type 0} (P : Protocol T) (apps : Apps) (port : ℕ) (limits : Limits) (m : NetMeaning) : Type 0 where
  pub served : EachServed P apps port limits.idle m.connections
  pub rest : AllBut (IsStill P.holds) m.connections
  pub most : m.most ≤ limits.pool
  pub within : length m.connections ≤ limits.conns

-- what a call leaves as it was where nothing is accepted
pub record Keeps (v w : NetMeaning) : Type 0 where
  pub accepted : length w.connections ≡ length v.connections
  pub listens : w.listens ≡ v.listens
  pub faults : w.faults ≡ v.faults
  pub blocked : w.blocked ≡ v.blocked

-- a net after something that failed by its listener or not
pub record Fares (failed : Type 0) (is_still : Connection → Type 0) (v w : NetMeaning) : Type 0 where
  pub listens : w.listens ≡ v.listens
  pub never_falls : v.faults ≤ w.faults
  pub listener : failed → HasRisen v.faults w.faults
  pub resting : failed → All is_still w.connections
  pub unfailed : (failed → ⊥) → w.faults ≡ v.faults

-- all connections rested or were held before a wait that named this one
pub record IsWoken {T : Type 0} (P : Protocol T) (apps : Apps) (port : ℕ) (limits : Limits) (m : NetMeaning) (listed : Listing T) (count room k : ℕ) : Type 0 where
  pub before : NetMeaning
  pub serving : IsServing P apps port limits before listed count room
  pub passes : TimePasses before m
  pub named : m.connections ≡ woken k before.connections

-- why no more is accepted: all were, or no place is free, or nobody is there
pub record HasAccepted (accepted conns count room : ℕ) (m : NetMeaning) : Type 0 where
  pub number : accepted ≡ length m.connections
  pub why : (conns ≤ accepted) ⊎ ((room ≤ count) ⊎ (m.blocked ≡ true))
