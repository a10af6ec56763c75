use Rattle.std.proofs.Common.{◌≡◌}
use Rattle.stream_server.specs.Tables.{IsListed}
use Rattle.wsgi_relay.specs.Accounts.{given_in}
use Rattle.wsgi_relay.specs.Tied.{IsKept, IsTied}
use Rattle.wsgi_relay.proofs.relays.RelaysServiceRelayTalkAppServer.poll.Given as goal

abbrev pub invariant-loop : goal.invariant-loop
invariant-loop g l = record {
  tied : IsTied (g.D.Dial.meaning l.world.dial) l.world.patience l.self.askers.list l.self.exchanges.items (IsListed l.table);
  kept : IsKept l.world.patience (g.D.Dial.meaning l.world.dial) l.self.askers.list (given_in l.self.replies.list);
  askers : l.self.askers.list ≡ l.fn.self.askers.list;
  replies : l.self.replies.list ≡ l.fn.self.replies.list;
  patience : l.world.patience ≡ l.fn.world.patience;
  towards : (g.D.Dial.meaning l.world.dial).towards ≡ (g.D.Dial.meaning l.fn.world.dial).towards;
  table : l.table ≡ l.fn.table;
}
