-- A client under way: the server's side of a connection against the net's.
use Rattle.std.specs.Prelude.{◌≡◌, ℕ, ◌<◌, true, false, List, [], IfSome, slice_set}
use Rattle.stream_net.specs.Net.{Connection, NetMeaning, NetGoesOn, connection_at}
use Rattle.stream_net.specs.declared.net.Quiet.TheVariants.{Awake, ByRead, ByWrite}
use Rattle.stream_server.specs.Speeches.{BeginsSaid, IsTimely, Speech}
use Rattle.stream_server.specs.Protocols.{Apps, Protocol, Side, side_of}
use Rattle.stream_server.specs.declared.client.Client.{Client}
use Rattle.stream_server.specs.declared.client.TheConstants.{NEVER}
use Rattle.stream_server.specs.declared.exchange.Step.{Step}
use Rattle.stream_server.specs.declared.exchange.Step.TheVariants.{Goes, Waits, Asks, Over, Memory}

-- The connection is open, and the talk was fed what was read and gave what was written. It is held where the talk says
-- so.
pub record IsOpen {T : Type 0} (S : Side T) (idle : ℕ) (c : Connection) (g : Client T) : Type 0 where
  pub fed : List ℕ
  pub taken : List ℕ
  pub reads : IfSome c.read (λ bytes. bytes ≡ fed)
  pub writes : IfSome c.written (λ bytes. bytes ≡ taken)
  pub still_open : c.closed ≡ false
  pub held : c.held ≡ S.holds g.talk
  pub same_end : g.ended ≡ c.ended
  pub timely : IsTimely idle c g.deadline
  pub is_at : S.at fed c.ended taken g.talk

-- its last read or write, if there was one, went through
pub record IsGoing {T : Type 0} (S : Side T) (idle : ℕ) (c : Connection) (g : Client T) : Type 0 where
  pub is_open : IsOpen S idle c g
  pub awake : c.quiet ≡ Awake

-- it rests: by a write, or by a read while nothing was pending and no request waited
pub data IsResting {T : Type 0} (S : Side T) (c : Connection) (g : Client T) : Type 0 where
  AtAWrite : c.quiet ≡ ByWrite → IsResting S c g
  AtARead : c.quiet ≡ ByRead → S.due g.talk ≡ [] → S.asks g.talk ≡ false → IsResting S c g

-- it rests and isn't held; or it is held, its deadline never comes, and the one that it had before is timely
pub data IsCalm {T : Type 0} (S : Side T) (idle : ℕ) (c : Connection) (g : Client T) : Type 0 where
  Free : S.holds g.talk ≡ false → IsResting S c g → IsCalm S idle c g
  Held : S.holds g.talk ≡ true → c.quiet ≡ Awake → g.deadline ≡ NEVER → IsTimely idle c (S.kept g.talk) → IsCalm S idle c g

-- why a client's connection is to be closed at once
pub data IsDone {T : Type 0} (S : Side T) (fed : List ℕ) (c : Connection) (g : Client T) : Type 0 where
  Closes : (S.said fed c.ended).closes ≡ true → S.due g.talk ≡ [] → S.asks g.talk ≡ false → IsDone S fed c g
  HasEnded : c.ended ≡ true → S.due g.talk ≡ [] → S.asks g.talk ≡ false → IsDone S fed c g
  Fails : 0 < c.faults → IsDone S fed c g

-- it is to be closed
pub record IsOver {T : Type 0} (S : Side T) (idle : ℕ) (c : Connection) (g : Client T) : Type 0 where
  pub is_open : IsOpen S idle c g
  pub why : IsDone S is_open.fed c g

-- memory ran out
pub record IsCut (said : Speech) (c : Connection) : Type 0 where
  pub begun : BeginsSaid said c
  pub still_open : c.closed ≡ false
  pub awake : c.quiet ≡ Awake

-- what a step leaves
abbrev pub Leaves : {T : Type 0} → Step → Side T → ℕ → Connection → Client T → Type 0
Leaves Goes S idle c g = IsGoing S idle c g
Leaves Waits S idle c g = IsOpen S idle c g × IsResting S c g
Leaves Asks S idle c g = IsGoing S idle c g
Leaves Over S idle c g = IsOver S idle c g
Leaves Memory S idle c g = IsCut S.said c

-- what a step leaves of a client that goes on, whatever fits the service, on whichever connection and at whichever port
abbrev pub StepLeaves : {T V W : Type 0} → Protocol T → (V → W → Apps → Type 0) → V → Step → ℕ → Connection → Client T → Connection → Client T → Type 0
StepLeaves {T} {V} {W} P fits service step idle c g d h =
    (world : W) (apps : Apps) (conn port : ℕ) → fits service world apps → IsGoing (side_of P (apps conn) port) idle c g → Leaves step (side_of P (apps conn) port) idle d h

-- of one connection things were changed, and nothing else; it wasn't closed
pub record OnlyAt (v w : NetMeaning) (k : ℕ) : Type 0 where
  pub connections : w.connections ≡ slice_set v.connections k (connection_at w.connections k)
  pub same_closed : (connection_at w.connections k).closed ≡ (connection_at v.connections k).closed
  pub rest : NetGoesOn v w
