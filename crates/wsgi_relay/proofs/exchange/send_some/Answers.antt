use Rattle.std.proofs.Common.{refl, arith}
use Rattle.wsgi_relay.proofs.Sending.{took, write_blocked, write_failed, write_lacked, write_rests}
use Rattle.wsgi_relay.proofs.exchange.send_some.Goals as goal

pub returns-in-Took-clause-exchanging : goal.returns-in-Took-clause-exchanging
returns-in-Took-clause-exchanging g c =
    took (g.D.Dial.meaning c.args.dial.now) (g.D.Dial.meaning c.write_left.new.dial) c.args.slot c.requires.opened c.args.exchange.now c.args.body.now c.requires.exchanging _ c.in-Took.count
    c.in-Took.ensures.writes refl (c.in-Took.ensures.fits c.in-Took.count refl)

pub returns-in-WouldBlock-clause-exchanging : goal.returns-in-WouldBlock-clause-exchanging
returns-in-WouldBlock-clause-exchanging g c =
    write_blocked (g.D.Dial.meaning c.args.dial.now) (g.D.Dial.meaning c.write_left.new.dial) c.args.slot c.requires.opened c.args.exchange.now c.args.body.now c.requires.exchanging _ c.in-WouldBlock.ensures.writes

pub returns-in-Failed-clause-exchanging : goal.returns-in-Failed-clause-exchanging
returns-in-Failed-clause-exchanging g c =
    write_failed (g.D.Dial.meaning c.args.dial.now) (g.D.Dial.meaning c.write_left.new.dial) c.args.slot c.requires.opened c.args.exchange.now c.args.body.now c.requires.exchanging _ c.in-Failed.ensures.writes

pub returns-in-Memory-clause-exchanging : goal.returns-in-Memory-clause-exchanging
returns-in-Memory-clause-exchanging g c =
    write_lacked (g.D.Dial.meaning c.args.dial.now) (g.D.Dial.meaning c.write_left.new.dial) c.args.slot c.requires.opened c.args.exchange.now c.args.body.now c.requires.exchanging _ c.in-Memory.ensures.writes

pub overflow_add-exchange : goal.overflow_add-exchange
overflow_add-exchange g c =
    let o = c.requires.opened in
    let short = (c.requires.exchanging o.number o.is).sent.short in
    let fits = c.in-Took.ensures.fits c.in-Took.count refl in
    omega (arith, short, fits)

pub returns-in-WouldBlock-clause-rests : goal.returns-in-WouldBlock-clause-rests
returns-in-WouldBlock-clause-rests g c = λ _ _.
    write_rests (g.D.Dial.meaning c.args.dial.now) (g.D.Dial.meaning c.write_left.new.dial) c.args.slot c.requires.opened c.args.exchange.now c.args.body.now c.requires.exchanging _ c.in-WouldBlock.ensures.writes
