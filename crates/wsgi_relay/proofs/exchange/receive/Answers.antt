use Rattle.std.proofs.Common.{◌≡◌, Ok, arith}
use Rattle.wsgi_relay.specs.declared.exchange.Heard.TheVariants.{Bytes}
use Rattle.wsgi_relay.proofs.Sending.{same_twice, too_many}
use Rattle.wsgi_relay.proofs.Streaming.{goes_on_twice}
use Rattle.wsgi_relay.proofs.exchange.receive.Goals as goal

pub returns-in_err-receive_some-clause-only : goal.returns-in_err-receive_some-clause-only
returns-in_err-receive_some-clause-only g c = goes_on_twice (g.D.Dial.meaning c.args.dial.now) (g.D.Dial.meaning c.loop-count.dial) (g.D.Dial.meaning c.receive_some.new.dial) c.args.slot c.loop-count.invariant.only c.receive_some.ensures.only

pub returns-in_err-receive_some-clause-sent : goal.returns-in_err-receive_some-clause-sent
returns-in_err-receive_some-clause-sent g c = λ body i. c.receive_some.ensures.sent body (c.loop-count.invariant.sent body i)

pub returns-in-Nothing-clause-only : goal.returns-in-Nothing-clause-only
returns-in-Nothing-clause-only g c = goes_on_twice (g.D.Dial.meaning c.args.dial.now) (g.D.Dial.meaning c.loop-count.dial) (g.D.Dial.meaning c.receive_some.new.dial) c.args.slot c.loop-count.invariant.only c.receive_some.ensures.only

pub returns-in-Nothing-clause-sent : goal.returns-in-Nothing-clause-sent
returns-in-Nothing-clause-sent g c = λ body i. c.receive_some.ensures.sent body (c.loop-count.invariant.sent body i)

pub returns-in-Over-clause-only : goal.returns-in-Over-clause-only
returns-in-Over-clause-only g c = goes_on_twice (g.D.Dial.meaning c.args.dial.now) (g.D.Dial.meaning c.loop-count.dial) (g.D.Dial.meaning c.receive_some.new.dial) c.args.slot c.loop-count.invariant.only c.receive_some.ensures.only

pub returns-in-Over-clause-sent : goal.returns-in-Over-clause-sent
returns-in-Over-clause-sent g c = λ body i. c.receive_some.ensures.sent body (c.loop-count.invariant.sent body i)

pub loop-count-preserved : goal.loop-count-preserved
loop-count-preserved g c =
    let is : c.receive_some.result ≡ Ok Bytes = cc in
    record {
      opened = c.receive_some.ensures.opened;
      only = goes_on_twice (g.D.Dial.meaning c.args.dial.now) (g.D.Dial.meaning c.loop-count.dial) (g.D.Dial.meaning c.receive_some.new.dial) c.args.slot c.loop-count.invariant.only c.receive_some.ensures.only;
      same = same_twice _ _ _ c.loop-count.invariant.same c.receive_some.ensures.same;
      sent = λ body i. c.receive_some.ensures.sent body (c.loop-count.invariant.sent body i);
      heard = c.in_ok-receive_some.ensures.heard;
      fed = c.receive_some.ensures.more is c.loop-count.count c.loop-count.invariant.fed;
    }

pub unreachable-requires : goal.unreachable-requires
unreachable-requires g c = too_many c.loop-count.exchange c.loop-count.count (omega arith) c.loop-count.invariant.fed
