use Rattle.wsgi_relay.proofs.Sending.{same_twice}
use Rattle.wsgi_relay.proofs.Streaming.{goes_on_twice}
use Rattle.wsgi_relay.proofs.exchange.send.Goals as goal

pub returns-in_err-send_some-clause-only : goal.returns-in_err-send_some-clause-only
returns-in_err-send_some-clause-only g c = goes_on_twice (g.D.Dial.meaning c.args.dial.now) (g.D.Dial.meaning c.loop-dial.dial) (g.D.Dial.meaning c.send_some.new.dial) c.args.slot c.loop-dial.invariant.only c.send_some.ensures.only

pub returns-then-not-branch-clause-only : goal.returns-then-not-branch-clause-only
returns-then-not-branch-clause-only g c = goes_on_twice (g.D.Dial.meaning c.args.dial.now) (g.D.Dial.meaning c.loop-dial.dial) (g.D.Dial.meaning c.send_some.new.dial) c.args.slot c.loop-dial.invariant.only c.send_some.ensures.only

pub loop-dial-preserved : goal.loop-dial-preserved
loop-dial-preserved g c = record {
  opened = c.send_some.ensures.opened;
  only = goes_on_twice (g.D.Dial.meaning c.args.dial.now) (g.D.Dial.meaning c.loop-dial.dial) (g.D.Dial.meaning c.send_some.new.dial) c.args.slot c.loop-dial.invariant.only c.send_some.ensures.only;
  same = same_twice _ _ _ c.loop-dial.invariant.same c.send_some.ensures.same;
  exchanging = c.send_some.ensures.exchanging;
}
