-- What dialled streams of the system mean.
use Rattle.std.specs.Prelude.{◌≡◌, ℕ, ◌<◌, true, length, Option, Some, None}
use Rattle.slab.specs.Slab.{Slab, get}
use Rattle.stream_net.specs.Net.{connection_at}
use Rattle.stream_dial.specs.Dials.{DialMeaning}
use Rattle.mio_net.specs.Annals.{DialNotes, number_in}
use Rattle.mio_net.specs.declared.dial_edge.Upstream.{Upstream}
use Rattle.mio_net.specs.declared.dial_edge.Upstream.TheVariants.{Port, Socket}

-- the port, where streams are opened towards one
abbrev pub port_of : Upstream → Option ℕ
port_of (Port port) = Some port
port_of (Socket address) = None

abbrev pub meaning_in : DialNotes → Option ℕ → ℕ → DialMeaning
meaning_in n towards moment = record { streams = n.streams; opened = n.opened; slots = number_in n.slots; towards = towards; moment = moment }

-- each slot has one of the streams, which is closed where nothing is kept in the slot
pub record AreKept {T : Type 0} (n : DialNotes) (kept : Slab T) : Type 0 where
  pub within : (slot number : ℕ) → number_in n.slots slot ≡ Some number → number < length n.streams
  pub free : (slot number : ℕ) → number_in n.slots slot ≡ Some number → get kept slot ≡ None → (connection_at n.streams number).closed ≡ true
