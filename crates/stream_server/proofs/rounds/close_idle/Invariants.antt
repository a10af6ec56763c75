use Rattle.std.proofs.Common.{◌<◌, ◌≤◌}
use Rattle.stream_server.specs.declared.client.TheConstants.{NEVER}
use Rattle.stream_server.specs.Running.{IsRunning}
use Rattle.stream_server.specs.Keeping.{Keeps}
use Rattle.stream_server.specs.Tables.{client_count}
use Rattle.stream_server.proofs.rounds.close_idle.Given as goal

abbrev pub invariant-loop-client : goal.invariant-loop-client
invariant-loop-client g l = record {
  running : IsRunning g.V.Service.protocol (g.V.Service.fits l.fn.service l.fn.world) (g.V.Service.tied l.fn.service l.fn.world) l.fn.serving.terms (g.N.Net.meaning l.net) l.table;
  keeps : Keeps (g.N.Net.meaning l.fn.net) (g.N.Net.meaning l.net);
  short : l.now < NEVER;
  past : l.now ≤ (g.N.Net.meaning l.net).moment;
}

abbrev pub decreases-loop-client : goal.decreases-loop-client
decreases-loop-client g l = client_count l.table
