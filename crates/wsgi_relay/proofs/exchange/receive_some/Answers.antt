use Rattle.std.proofs.Common.{◌≡◌, ◌<◌, length, take, true, refl, sym, ◌∙◌, subst, arith}
use Rattle.std.proofs.lemmas.List.{length-take}
use Rattle.relay_core.specs.declared.reader.Far.{Far}
use Rattle.wsgi_relay.specs.Exchanging.{HasShown, OfSlot}
use Rattle.wsgi_relay.proofs.Sending.{fed_more, got_more, read_blocked, read_ended, read_failed, read_rests, read_sent, shown_at_end, shown_broken}
use Rattle.wsgi_relay.proofs.exchange.receive_some.Goals as goal

pub returns-in_err-feed-in-Got-clause-sent : goal.returns-in_err-feed-in-Got-clause-sent
returns-in_err-feed-in-Got-clause-sent g c = λ body i.
    read_sent (g.D.Dial.meaning c.args.dial.now) (g.D.Dial.meaning c.read_some.new.dial) c.args.slot c.requires.opened c.args.exchange.now (record c.args.exchange.now { reader = c.feed.new.self }) _ _ c.in-Got.ensures.reads refl refl body i

pub returns-then-is_decided-clause-sent : goal.returns-then-is_decided-clause-sent
returns-then-is_decided-clause-sent g c = λ body i.
    read_sent (g.D.Dial.meaning c.args.dial.now) (g.D.Dial.meaning c.read_some.new.dial) c.args.slot c.requires.opened c.args.exchange.now (record c.args.exchange.now { reader = c.feed.new.self }) _ _ c.in-Got.ensures.reads refl refl body i

pub returns-else-is_decided-clause-sent : goal.returns-else-is_decided-clause-sent
returns-else-is_decided-clause-sent g c = λ body i.
    read_sent (g.D.Dial.meaning c.args.dial.now) (g.D.Dial.meaning c.read_some.new.dial) c.args.slot c.requires.opened c.args.exchange.now (record c.args.exchange.now { reader = c.feed.new.self }) _ _ c.in-Got.ensures.reads refl refl body i

pub returns-in-End-clause-sent : goal.returns-in-End-clause-sent
returns-in-End-clause-sent g c = λ body i.
    read_sent (g.D.Dial.meaning c.args.dial.now) (g.D.Dial.meaning c.read_some.new.dial) c.args.slot c.requires.opened c.args.exchange.now c.args.exchange.now _ _ c.in-End.ensures.reads refl refl body i

pub returns-in-WouldBlock-clause-sent : goal.returns-in-WouldBlock-clause-sent
returns-in-WouldBlock-clause-sent g c = λ body i.
    read_sent (g.D.Dial.meaning c.args.dial.now) (g.D.Dial.meaning c.read_some.new.dial) c.args.slot c.requires.opened c.args.exchange.now c.args.exchange.now _ _ c.in-WouldBlock.ensures.reads refl refl body i

pub returns-in-Failed-clause-sent : goal.returns-in-Failed-clause-sent
returns-in-Failed-clause-sent g c = λ body i.
    read_sent (g.D.Dial.meaning c.args.dial.now) (g.D.Dial.meaning c.read_some.new.dial) c.args.slot c.requires.opened c.args.exchange.now (record c.args.exchange.now { failed = true }) _ _ c.in-Failed.ensures.reads refl refl body i

pub returns-then-is_decided-clause-heard : goal.returns-then-is_decided-clause-heard
returns-then-is_decided-clause-heard g c =
    got_more (g.D.Dial.meaning c.args.dial.now) (g.D.Dial.meaning c.read_some.new.dial) c.args.slot c.requires.opened c.args.exchange.now c.requires.heard _ c.in-Got.count c.feed.new.self c.in-Got.ensures.reads c.in_ok-feed-in-Got.ensures.reads

pub returns-else-is_decided-clause-heard : goal.returns-else-is_decided-clause-heard
returns-else-is_decided-clause-heard g c =
    got_more (g.D.Dial.meaning c.args.dial.now) (g.D.Dial.meaning c.read_some.new.dial) c.args.slot c.requires.opened c.args.exchange.now c.requires.heard _ c.in-Got.count c.feed.new.self c.in-Got.ensures.reads c.in_ok-feed-in-Got.ensures.reads

pub returns-in-End-clause-heard : goal.returns-in-End-clause-heard
returns-in-End-clause-heard g c =
    read_ended (g.D.Dial.meaning c.args.dial.now) (g.D.Dial.meaning c.read_some.new.dial) c.args.slot c.requires.opened c.args.exchange.now c.requires.heard _ c.in-End.ensures.reads

pub returns-in-WouldBlock-clause-heard : goal.returns-in-WouldBlock-clause-heard
returns-in-WouldBlock-clause-heard g c =
    read_blocked (g.D.Dial.meaning c.args.dial.now) (g.D.Dial.meaning c.read_some.new.dial) c.args.slot c.requires.opened c.args.exchange.now c.requires.heard _ c.in-WouldBlock.ensures.reads

pub returns-in-Failed-clause-heard : goal.returns-in-Failed-clause-heard
returns-in-Failed-clause-heard g c =
    read_failed (g.D.Dial.meaning c.args.dial.now) (g.D.Dial.meaning c.read_some.new.dial) c.args.slot c.requires.opened c.args.exchange.now c.requires.heard _ c.in-Failed.ensures.reads

pub returns-else-is_decided-clause-more : goal.returns-else-is_decided-clause-more
returns-else-is_decided-clause-more g c = λ is n h.
    let some = c.in-Got.ensures.some c.in-Got.count refl in
    let fits = c.in-Got.ensures.fits c.in-Got.count refl in
    let piece : 0 < length (take c.in-Got.count c.read_some.new.buffer) = rw length-take (omega (arith, some, fits)) in
    fed_more c.args.exchange.now (record c.args.exchange.now { reader = c.feed.new.self }) (take c.in-Got.count c.read_some.new.buffer) n h c.in_ok-feed-in-Got.ensures.reads piece
    (λ fed reading. sym c.if-is_decided.false ∙ c.is_decided.ensures fed reading)

pub returns-in-End-clause-over : goal.returns-in-End-clause-over
returns-in-End-clause-over g c = λ far is.
    let same : c.far_at_end.result ≡ far = cc in
    subst (λ (f : Far). OfSlot (g.D.Dial.meaning c.read_some.new.dial) c.args.slot (λ s. HasShown f s c.args.exchange.now)) (sym c.far_at_end.ensures ∙ same)
    (shown_at_end (g.D.Dial.meaning c.args.dial.now) (g.D.Dial.meaning c.read_some.new.dial) c.args.slot c.requires.opened c.args.exchange.now c.requires.heard _ c.in-End.ensures.reads)

pub returns-in-Failed-clause-over : goal.returns-in-Failed-clause-over
returns-in-Failed-clause-over g c = λ far is.
    let same : Far.Broken ≡ far = cc in
    subst (λ (f : Far). OfSlot (g.D.Dial.meaning c.read_some.new.dial) c.args.slot (λ s. HasShown f s (record c.args.exchange.now { failed = true }))) same
    (shown_broken (g.D.Dial.meaning c.args.dial.now) (g.D.Dial.meaning c.read_some.new.dial) c.args.slot c.requires.opened c.args.exchange.now c.requires.heard _ c.in-Failed.ensures.reads)

pub returns-in-WouldBlock-clause-waits : goal.returns-in-WouldBlock-clause-waits
returns-in-WouldBlock-clause-waits g c = λ _.
    read_rests (g.D.Dial.meaning c.args.dial.now) (g.D.Dial.meaning c.read_some.new.dial) c.args.slot c.requires.opened c.args.exchange.now c.requires.heard _ c.in-WouldBlock.ensures.reads
