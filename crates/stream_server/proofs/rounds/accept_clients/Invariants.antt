use Rattle.std.proofs.Common.{◌≡◌, ◌-◌, length}
use Rattle.stream_server.specs.Running.{IsRunning, StaysSound}
use Rattle.stream_server.proofs.rounds.accept_clients.Given as goal

abbrev pub invariant-loop-count : goal.invariant-loop-count
invariant-loop-count g l = record {
  running : IsRunning g.V.Service.protocol (g.V.Service.fits l.service l.world) (g.V.Service.tied l.service l.world) l.serving.terms (g.N.Net.meaning l.net) l.table;
  service : StaysSound g.V.Service.sound g.V.Service.fits g.V.Service.lasting l.fn.service l.fn.world l.service l.world;
  accepted : l.count ≡ length (g.N.Net.meaning l.net).connections;
  listens : (g.N.Net.meaning l.net).listens ≡ (g.N.Net.meaning l.fn.net).listens;
  faults : (g.N.Net.meaning l.net).faults ≡ (g.N.Net.meaning l.fn.net).faults;
}

abbrev pub decreases-loop-count : goal.decreases-loop-count
decreases-loop-count g l = l.conns - l.count
