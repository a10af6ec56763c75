-- What a read does to its connection.
use Rattle.std.specs.Prelude.{◌≡◌, ◌≢◌, ℕ, ◌≤◌, true, List, take}
use Rattle.gv_values.specs.Counts.{HasRisen}
use Rattle.gv_io.specs.Streams.{appended}
use Rattle.stream_net.specs.declared.net.ReadEnd.{ReadEnd}
use Rattle.stream_net.specs.declared.net.ReadEnd.TheVariants.{Got, End, WouldBlock, Failed}
use Rattle.stream_net.specs.Net.{Awake, ByRead, Connection, NetMeaning, Changes, connection_at}

-- a connection after a read that answered so and gave these bytes, at this moment, with so many faults
abbrev pub after_read : ReadEnd → List ℕ → ℕ → ℕ → Connection → Connection
after_read (Got n) bytes moment faults c = record c { read = appended c.read (take n bytes); last = moment; quiet = Awake; faults = faults }
after_read End bytes moment faults c = record c { ended = true; quiet = Awake; faults = faults }
after_read WouldBlock bytes moment faults c = record c { quiet = ByRead; faults = faults }
after_read Failed bytes moment faults c = record c { quiet = Awake; faults = faults }

-- only that connection is changed; its count of faults has risen where the read failed, and else is as it was
pub record Reads (v w : NetMeaning) (k : ℕ) (answer : ReadEnd) (bytes : List ℕ) : Type 0 where
  pub faults : ℕ
  pub changes : Changes v w k (after_read answer bytes w.moment faults)
  pub never_falls : (connection_at v.connections k).faults ≤ faults
  pub failed : answer ≡ Failed → HasRisen (connection_at v.connections k).faults faults
  pub unfailed : answer ≢ Failed → faults ≡ (connection_at v.connections k).faults
