-- What a write does to its connection.
use Rattle.std.specs.Prelude.{◌≡◌, ◌≢◌, ℕ, ◌≤◌, List, take}
use Rattle.gv_values.specs.Counts.{HasRisen}
use Rattle.gv_io.specs.Streams.{appended}
use Rattle.stream_net.specs.declared.net.WriteEnd.{WriteEnd}
use Rattle.stream_net.specs.declared.net.WriteEnd.TheVariants.{Took, WouldBlock, Failed, Memory}
use Rattle.stream_net.specs.Net.{Awake, ByWrite, Connection, NetMeaning, Changes, connection_at}

-- a connection after a write of these bytes that answered so, at this moment, where its faults are so many
abbrev pub after_write : WriteEnd → List ℕ → ℕ → ℕ → Connection → Connection
after_write (Took n) bytes moment faults c = record c { written = appended c.written (take n bytes); last = moment; quiet = Awake; faults = faults }
after_write WouldBlock bytes moment faults c = record c { quiet = ByWrite; faults = faults }
after_write Failed bytes moment faults c = record c { quiet = Awake; faults = faults }
after_write Memory bytes moment faults c = record c { quiet = Awake; faults = faults }

-- only that connection is changed; its count of faults has risen where the write failed, and else is as it was
pub record Writes (v w : NetMeaning) (k : ℕ) (answer : WriteEnd) (bytes : List ℕ) : Type 0 where
  pub faults : ℕ
  pub changes : Changes v w k (after_write answer bytes w.moment faults)
  pub never_falls : (connection_at v.connections k).faults ≤ faults
  pub failed : answer ≡ Failed → HasRisen (connection_at v.connections k).faults faults
  pub unfailed : answer ≢ Failed → faults ≡ (connection_at v.connections k).faults
