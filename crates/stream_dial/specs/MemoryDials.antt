-- What dialled streams in memory mean.
use Rattle.std.specs.Prelude.{ℕ, List, Option, map, slice_get}
use Rattle.stream_net.specs.declared.memory_endpoint.MemoryEndpoint.{MemoryEndpoint}
use Rattle.stream_net.specs.MemoryEndpoints.{scripted_meaning}
use Rattle.stream_dial.specs.Dials.{DialMeaning}

-- what the fields of streams in memory mean
abbrev pub meaning_by : List MemoryEndpoint → List ℕ → List ℕ → Option ℕ → ℕ → DialMeaning
meaning_by endpoints opened slots towards moment = record {
  streams = map scripted_meaning endpoints;
  opened = opened;
  slots = λ slot. slice_get slots slot;
  towards = towards;
  moment = moment;
}
