use Rattle.std.proofs.lemmas.Result.{on_ok_weaker}
use Rattle.wsgi_relay.proofs.Streaming.{goes_on_twice}
use Rattle.wsgi_relay.proofs.exchange.advance.Goals as goal

pub returns-clause-only : goal.returns-clause-only
returns-clause-only g c =
    goes_on_twice (g.D.Dial.meaning c.args.dial.now) (g.D.Dial.meaning c.send.new.dial) (g.D.Dial.meaning c.receive.new.dial) c.args.slot c.send.ensures.only c.receive.ensures.only

pub returns-clause-sent : goal.returns-clause-sent
returns-clause-sent g c = c.receive.ensures.sent c.args.body.now (λ number at. (c.send.ensures.exchanging number at).sent)

pub returns-clause-exchanging : goal.returns-clause-exchanging
returns-clause-exchanging g c =
    let sent = c.receive.ensures.sent c.args.body.now (λ number at. (c.send.ensures.exchanging number at).sent) in
    on_ok_weaker c.receive.result (λ heard number at. record { sent = sent number at; heard = heard number at }) c.receive.ensures.heard
