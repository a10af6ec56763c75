-- What a net over the system means.
use Rattle.std.specs.Prelude.{ℕ, Bool, List, map, Option, Some, None}
use Rattle.stream_net.specs.Accounts.{account_meaning}
use Rattle.stream_net.specs.declared.net.Ports.{Ports}
use Rattle.stream_net.specs.Net.{Connection, NetMeaning, Readiness}
use Rattle.mio_net.specs.declared.endpoint.Endpoint.{Endpoint}

-- a connection of the system: what its stream gave, and what was given to it
abbrev pub endpoint_meaning : Endpoint → Connection
endpoint_meaning p = account_meaning p.account (Some p.wire.came.bytes) (Some p.wire.went.bytes)

-- what the fields of a net over the system mean
abbrev pub meaning_by : List Endpoint → ℕ → ℕ → Option Ports → ℕ → Bool → NetMeaning
meaning_by endpoints most moment listens faults blocked = record {
  connections = map endpoint_meaning endpoints;
  most = most;
  moment = moment;
  listens = listens;
  faults = faults;
  blocked = blocked;
}

-- it doesn't tell what is ready
abbrev pub readiness_of_none : Readiness
readiness_of_none = record { incoming = None; readable = λ _. None; writable = λ _. None }
