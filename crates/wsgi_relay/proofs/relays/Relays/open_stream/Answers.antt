use Rattle.std.proofs.Common.{ℕ, List, ap, min, ◌+◌, refl, sym, subst, ◌∙◌}
use Rattle.wsgi_relay.specs.Accounts.{asked_on, given_in}
use Rattle.wsgi_relay.specs.Relaying.{Asked}
use Rattle.wsgi_relay.specs.Tied.{IsKept}
use Rattle.wsgi_relay.proofs.Opening.{made_until, opened_for, opened_kept, unopened_kept}
use Rattle.wsgi_relay.proofs.relays.Relays.open_stream.Goals as goal

pub returns-in_err-slot-clause-kept : goal.returns-in_err-slot-clause-kept
returns-in_err-slot-clause-kept g c =
    unopened_kept c.args.upstream.now.patience (g.D.Dial.meaning c.args.upstream.now.dial) (g.D.Dial.meaning c.dial.new.self) c.args.self.now.askers.list (given_in c.args.self.now.replies.list) c.requires.kept c.in_err-slot.ensures.kept

pub returns-in_err-send-clause-kept : goal.returns-in_err-send-clause-kept
returns-in_err-send-clause-kept g c =
    let w = g.D.Dial.meaning c.send.new.dial in
    let given = given_in c.args.self.now.replies.list in
    let a = asked_on c.args.asked.now.conn c.args.asked.now.session.now in
    subst (λ (l : List Asked). IsKept c.args.upstream.now.patience w l given) (sym c.and-self.ensures)
    (opened_kept c.args.upstream.now.patience (g.D.Dial.meaning c.args.upstream.now.dial) (g.D.Dial.meaning c.dial.new.self) w c.in_ok-slot.slot a (record c.args.exchange.now { until = c.saturating_add-exchange.result }) c.send.new.exchange
    c.in_ok-slot.ensures.opens (made_until a c.args.exchange.now c.saturating_add-exchange.result c.requires.begun) c.send.ensures.only c.send.ensures.same c.args.body.now c.requires.body c.send.ensures.exchanging
    c.args.self.now.askers.list given c.requires.kept c.requires.plain)

pub returns-clause-kept : goal.returns-clause-kept
returns-clause-kept g c =
    let w = g.D.Dial.meaning c.send.new.dial in
    let given = given_in c.args.self.now.replies.list in
    let a = asked_on c.args.asked.now.conn c.args.asked.now.session.now in
    subst (λ (l : List Asked). IsKept c.args.upstream.now.patience w l given) (sym c.and-self.ensures)
    (opened_kept c.args.upstream.now.patience (g.D.Dial.meaning c.args.upstream.now.dial) (g.D.Dial.meaning c.dial.new.self) w c.in_ok-slot.slot a (record c.args.exchange.now { until = c.saturating_add-exchange.result }) c.send.new.exchange
    c.in_ok-slot.ensures.opens (made_until a c.args.exchange.now c.saturating_add-exchange.result c.requires.begun) c.send.ensures.only c.send.ensures.same c.args.body.now c.requires.body c.send.ensures.exchanging
    c.args.self.now.askers.list given c.requires.kept c.requires.plain)

pub returns-clause-opens : goal.returns-clause-opens
returns-clause-opens g c =
    let w = g.D.Dial.meaning c.send.new.dial in
    let a = asked_on c.args.asked.now.conn c.args.asked.now.session.now in
    opened_for c.args.upstream.now.patience (g.D.Dial.meaning c.args.upstream.now.dial) (g.D.Dial.meaning c.dial.new.self) w c.in_ok-slot.slot a (record c.args.exchange.now { until = c.saturating_add-exchange.result }) c.send.new.exchange
    c.in_ok-slot.ensures.opens (made_until a c.args.exchange.now c.saturating_add-exchange.result c.requires.begun) c.send.ensures.only c.send.ensures.same c.args.body.now c.requires.body c.send.ensures.exchanging
    18446744073709551615 (c.saturating_add-exchange.ensures ∙ ap (λ (n : ℕ). min (n + c.args.upstream.now.patience) 18446744073709551615) c.now.ensures) refl c.requires.kept.timed

pub returns-in_err-slot-clause-towards : goal.returns-in_err-slot-clause-towards
returns-in_err-slot-clause-towards g c = c.in_err-slot.ensures.kept.none.towards

pub returns-in_err-send-clause-towards : goal.returns-in_err-send-clause-towards
returns-in_err-send-clause-towards g c = c.send.ensures.only.none.towards ∙ c.in_ok-slot.ensures.opens.towards

pub returns-clause-towards : goal.returns-clause-towards
returns-clause-towards g c = c.send.ensures.only.none.towards ∙ c.in_ok-slot.ensures.opens.towards
