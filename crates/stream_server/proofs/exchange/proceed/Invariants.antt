use Rattle.std.proofs.Common.{◌≡◌, ◌≤◌, ℕ}
use Rattle.stream_net.specs.Net.{IsLive, connection_at}
use Rattle.stream_server.specs.Protocols.{Apps, side_of}
use Rattle.stream_server.specs.Steps.{IsGoing, OnlyAt}
use Rattle.stream_server.proofs.exchange.proceed.Given as goal

abbrev pub invariant-loop : goal.invariant-loop
invariant-loop g l = record {
  can : (goal.iterator-loop g).can_next l.iterator';
  finite : (goal.iterator-loop g).is_finite l.iterator';
  live : IsLive (g.N.Net.meaning l.net) l.fn.client.conn;
  only : OnlyAt (g.N.Net.meaning l.fn.net) (g.N.Net.meaning l.net) l.fn.client.conn;
  same : l.client.conn ≡ l.fn.client.conn;
  holds : g.V.Service.protocol.holds l.client.talk ≡ g.V.Service.protocol.holds l.fn.client.talk;
  rises : g.V.Service.rank l.fn.client.talk ≤ g.V.Service.rank l.client.talk;
  leaves : (w : g.row.W.Denot) (apps : Apps) (conn port : ℕ) → g.V.Service.fits l.service w apps
      → IsGoing (side_of g.V.Service.protocol (apps conn) port) l.idle (connection_at (g.N.Net.meaning l.fn.net).connections l.fn.client.conn) l.fn.client
      → IsGoing (side_of g.V.Service.protocol (apps conn) port) l.idle (connection_at (g.N.Net.meaning l.net).connections l.fn.client.conn) l.client;
}
