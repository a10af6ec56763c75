-- What is noted of dialled streams.
use Rattle.std.specs.Prelude.{ℕ, ◌+◌, ◌==◌, if◌then◌else◌, false, List, [], ◌∷◌, ◌++◌, length, slice_set, Option, Some, None}
use Rattle.stream_net.specs.declared.net.ReadEnd.{ReadEnd}
use Rattle.stream_net.specs.declared.net.ReadEnd.TheVariants as R
use Rattle.stream_net.specs.declared.net.WriteEnd.{WriteEnd}
use Rattle.stream_net.specs.declared.net.WriteEnd.TheVariants as W
use Rattle.stream_net.specs.declared.net.Quiet.TheVariants.{Awake}
use Rattle.stream_net.specs.Net.{Connection, closed_at, connection_at}
use Rattle.stream_net.specs.Reads.{after_read}
use Rattle.stream_net.specs.Writes.{after_write}
use Rattle.mio_net.specs.declared.annals.Deed.{Deed}
use Rattle.mio_net.specs.declared.annals.Deed.TheVariants.{Opened, WasRead, WasWritten, WasClosed}

-- The streams that were opened, in order; the moment at which each was; and the slots in which they were, each with the
-- number of the stream, the last first.
pub record DialNotes : Type 0 where
  pub streams : List Connection
  pub opened : List ℕ
  pub slots : List (ℕ × ℕ)

-- the number of the stream that was opened last in the slot
abbrev pub number_in : List (ℕ × ℕ) → ℕ → Option ℕ
number_in [] slot = None
number_in (taken ∷ slots) slot = if taken.0 == slot then Some taken.1 else number_in slots slot

-- a stream that was opened at this moment
abbrev pub new_stream : ℕ → Connection
new_stream moment = record { read = Some []; written = Some []; ended = false; closed = false; closed_at = 0; faults = 0; last = moment; quiet = Awake; held = false }

-- the streams, where that of this number, if there is one, is changed so
abbrev pub changed_in : Option ℕ → (Connection → Connection) → List Connection → List Connection
changed_in None change streams = streams
changed_in (Some k) change streams = slice_set streams k (change (connection_at streams k))

-- the faults after a read or a write
abbrev pub faults_read : ReadEnd → ℕ → ℕ
faults_read (R.Got n) faults = faults
faults_read R.End faults = faults
faults_read R.WouldBlock faults = faults
faults_read R.Failed faults = faults + 1

abbrev pub faults_written : WriteEnd → ℕ → ℕ
faults_written (W.Took n) faults = faults
faults_written W.WouldBlock faults = faults
faults_written W.Failed faults = faults + 1
faults_written W.Memory faults = faults

-- after a read, and after a write of these bytes
abbrev pub read_noted : ℕ → ReadEnd → List ℕ → ℕ → DialNotes → DialNotes
read_noted slot end bytes moment n = record n { streams = changed_in (number_in n.slots slot) (λ c. after_read end bytes moment (faults_read end c.faults) c) n.streams }

abbrev pub write_noted : ℕ → WriteEnd → List ℕ → ℕ → DialNotes → DialNotes
write_noted slot end bytes moment n = record n { streams = changed_in (number_in n.slots slot) (λ c. after_write end bytes moment (faults_written end c.faults) c) n.streams }

-- the streams after this was done
abbrev pub noted : Deed → DialNotes → DialNotes
noted (Opened slot moment) n = record { streams = n.streams ++ new_stream moment ∷ []; opened = n.opened ++ moment ∷ []; slots = (slot, length n.streams) ∷ n.slots }
noted (WasRead slot end bytes moment) n = read_noted slot end bytes.now moment n
noted (WasWritten slot end first second moment) n = write_noted slot end (first.now ++ second.now) moment n
noted (WasClosed slot moment) n = record n { streams = changed_in (number_in n.slots slot) (closed_at moment) n.streams }
