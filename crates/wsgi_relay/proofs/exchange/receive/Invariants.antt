use Rattle.std.proofs.Common.{List, ℕ}
use Rattle.stream_dial.specs.Dials.{IsOpen}
use Rattle.wsgi_relay.specs.Exchanging.{GoesOnIn, HasFed, IsHeard, IsSameExchange, IsSent, OfSlot}
use Rattle.wsgi_relay.proofs.exchange.receive.Given as goal

abbrev pub invariant-loop-count : goal.invariant-loop-count
invariant-loop-count g l = record {
  opened : IsOpen (g.D.Dial.meaning l.dial) l.slot;
  only : GoesOnIn (g.D.Dial.meaning l.fn.dial) (g.D.Dial.meaning l.dial) l.slot;
  same : IsSameExchange l.fn.exchange l.exchange;
  sent : (body : List ℕ) → OfSlot (g.D.Dial.meaning l.fn.dial) l.slot (λ s. IsSent s l.fn.exchange body) → OfSlot (g.D.Dial.meaning l.dial) l.slot (λ s. IsSent s l.exchange body);
  heard : OfSlot (g.D.Dial.meaning l.dial) l.slot (λ s. IsHeard s l.exchange);
  fed : HasFed l.exchange l.count;
}
