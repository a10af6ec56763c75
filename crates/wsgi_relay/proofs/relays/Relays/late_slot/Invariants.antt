use Rattle.std.proofs.Common.{◌≡◌}
use Rattle.wsgi_relay.proofs.relays.Relays.late_slot.Given as goal

abbrev pub invariant-loop : goal.invariant-loop
invariant-loop l = record {
  exchanges : l.self.exchanges.items ≡ l.fn.self.exchanges.items;
  askers : l.self.askers.list ≡ l.fn.self.askers.list;
  replies : l.self.replies.list ≡ l.fn.self.replies.list;
}
