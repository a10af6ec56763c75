-- A net in memory as its user sees it.
use Rattle.std.specs.Prelude.{◌≡◌, ℕ, true}
use Rattle.stream_net.specs.declared.memory_net.MemoryNet.{MemoryNet}
use Rattle.stream_net.specs.MemoryNets.{meaning_by, readiness_by}
use Rattle.stream_net.specs.Net.{Connection, NetMeaning, Readiness}

abbrev pub meaning_of : MemoryNet → NetMeaning
meaning_of n = meaning_by n.endpoints.items n.most n.moment n.listens n.faults n.blocked

abbrev pub readiness_of : MemoryNet → Readiness
readiness_of n = readiness_by n.waiting.items n.endpoints.items n.moment

-- who waits, who of them was told of, the port and the moment are as before
pub record Stays (old new : MemoryNet) : Type 0 where
  pub waiting : new.waiting ≡ old.waiting
  pub told : new.told ≡ old.told
  pub port : new.port ≡ old.port
  pub moment : new.moment ≡ old.moment

-- it is closed, since this moment
pub record IsClosedAt (c : Connection) (at : ℕ) : Type 0 where
  pub closed : c.closed ≡ true
  pub moment : c.closed_at ≡ at
