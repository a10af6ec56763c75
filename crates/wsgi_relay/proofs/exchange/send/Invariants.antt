use Rattle.std.proofs.Common.{◌+◌, ◌-◌, length}
use Rattle.stream_dial.specs.Dials.{IsOpen}
use Rattle.wsgi_relay.specs.Exchanging.{GoesOnIn, IsExchanging, IsSameExchange, OfSlot}
use Rattle.wsgi_relay.proofs.exchange.send.Given as goal

abbrev pub invariant-loop-dial : goal.invariant-loop-dial
invariant-loop-dial g l = record {
  opened : IsOpen (g.D.Dial.meaning l.dial) l.slot;
  only : GoesOnIn (g.D.Dial.meaning l.fn.dial) (g.D.Dial.meaning l.dial) l.slot;
  same : IsSameExchange l.fn.exchange l.exchange;
  exchanging : OfSlot (g.D.Dial.meaning l.dial) l.slot (λ s. IsExchanging s l.exchange l.body);
}

abbrev pub decreases-loop-dial : goal.decreases-loop-dial
decreases-loop-dial g l = (length l.exchange.head + length l.body) - l.exchange.sent
