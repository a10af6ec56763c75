use Rattle.std.proofs.Common.{◌≡◌, length}
use Rattle.stream_server.specs.Running.{IsRunning, StaysSound}
use Rattle.stream_server.proofs.rounds.serve_on.Given as goal

abbrev pub invariant-loop : goal.invariant-loop
invariant-loop g l = record {
  can : (goal.iterator-loop g).can_next l.iterator';
  finite : (goal.iterator-loop g).is_finite l.iterator';
  running : IsRunning g.V.Service.protocol (g.V.Service.fits l.service l.world) (g.V.Service.tied l.service l.world) l.fn.terms (g.N.Net.meaning l.net) l.table;
  service : StaysSound g.V.Service.sound g.V.Service.fits g.V.Service.lasting l.fn.service l.fn.world l.service l.world;
  accepted : l.accepted ≡ length (g.N.Net.meaning l.net).connections;
  listens : (g.N.Net.meaning l.net).listens ≡ (g.N.Net.meaning l.fn.net).listens;
  faults : (g.N.Net.meaning l.net).faults ≡ (g.N.Net.meaning l.fn.net).faults;
}
