use Rattle.std.proofs.Common.{ℕ, List, Option, refl, sym, subst, ◌∙◌}
use Rattle.std.specs.Prelude.{Some, None}
use Rattle.http_messages.specs.Environ.{Pair}
use Rattle.stream_server.specs.Services.{Polls}
use Rattle.stream_server.specs.Tables.{IsListed}
use Rattle.stream_server.specs.declared.client.Client.{Client}
use Rattle.wsgi_core.specs.Steps.{answered_of}
use Rattle.wsgi_relay.specs.Accounts.{AllAgree, asker_in, given_in, given_on}
use Rattle.wsgi_relay.specs.Relaying.{Asked, Given}
use Rattle.wsgi_relay.specs.Talks.{relay_protocol}
use Rattle.wsgi_relay.specs.Tied.{IsKept, IsTiedBut}
use Rattle.wsgi_relay.specs.declared.relay_talk.RelayTalk.{RelayTalk}
use Rattle.wsgi_relay.proofs.Keeping.{kept_given}
use Rattle.wsgi_relay.proofs.Releasing.{agreed_before, answered_stream, awaits_asked, closed_kept, closes_only, given_new, gives_polled, gives_tied, over_at, over_decided}
use Rattle.wsgi_relay.proofs.Tying.{tied_over, way_exchanging, way_open}
use Rattle.wsgi_relay.proofs.relays.Relays.release.Goals as goal

pub close_exchange-requires-clause-opened : goal.close_exchange-requires-clause-opened
close_exchange-requires-clause-opened g c =
    let v = g.D.Dial.meaning c.args.upstream.now.dial in
    let asked = c.args.self.now.askers.list in
    let patience = c.args.upstream.now.patience in
    let u = c.requires.tied.each c.args.slot c.in-Some.exchange (sym c.take.ensures.took ∙ c.in-Some.is) in
    way_open patience v asked (IsListed c.args.table.now) c.args.slot c.in-Some.exchange u

pub close_exchange-requires-clause-heard : goal.close_exchange-requires-clause-heard
close_exchange-requires-clause-heard g c = λ number is.
    let v = g.D.Dial.meaning c.args.upstream.now.dial in
    let asked = c.args.self.now.askers.list in
    let patience = c.args.upstream.now.patience in
    let u = c.requires.tied.each c.args.slot c.in-Some.exchange (sym c.take.ensures.took ∙ c.in-Some.is) in
    (way_exchanging patience v asked (IsListed c.args.table.now) c.args.slot c.in-Some.exchange u number is).heard

pub close_exchange-requires-clause-decided : goal.close_exchange-requires-clause-decided
close_exchange-requires-clause-decided g c =
    let v = g.D.Dial.meaning c.args.upstream.now.dial in
    let asked = c.args.self.now.askers.list in
    let patience = c.args.upstream.now.patience in
    let u = c.requires.tied.each c.args.slot c.in-Some.exchange (sym c.take.ensures.took ∙ c.in-Some.is) in
    over_decided c.args.far v c.args.slot u.number c.in-Some.exchange u.is (over_at v c.args.self.now.exchanges.items c.args.slot c.args.far c.in-Some.exchange c.requires.over (sym c.take.ensures.took ∙ c.in-Some.is))

pub returns-in_default-close_exchange-clause-kept : goal.returns-in_default-close_exchange-clause-kept
returns-in_default-close_exchange-clause-kept g c =
    let v = g.D.Dial.meaning c.args.upstream.now.dial in
    let asked = c.args.self.now.askers.list in
    let patience = c.args.upstream.now.patience in
    let u = c.requires.tied.each c.args.slot c.in-Some.exchange (sym c.take.ensures.took ∙ c.in-Some.is) in
    let w = g.D.Dial.meaning c.close_exchange.new.dial in
    closed_kept patience v w asked c.args.self.now.replies.list (IsListed c.args.table.now) c.args.slot c.in-Some.exchange u c.close_exchange.ensures.closes c.requires.kept

pub unreachable-requires-in_default-remove : goal.unreachable-requires-in_default-remove
unreachable-requires-in_default-remove g c =
    let v = g.D.Dial.meaning c.args.upstream.now.dial in
    let asked = c.args.self.now.askers.list in
    let patience = c.args.upstream.now.patience in
    let u = c.requires.tied.each c.args.slot c.in-Some.exchange (sym c.take.ensures.took ∙ c.in-Some.is) in
    u.held None (subst (λ (o : Option (Client RelayTalk)). IsListed c.args.table.now c.in-Some.exchange.conn o) c.in_default-remove.is c.remove.ensures.was)

pub give-requires : goal.give-requires
give-requires g c =
    let v = g.D.Dial.meaning c.args.upstream.now.dial in
    let asked = c.args.self.now.askers.list in
    let patience = c.args.upstream.now.patience in
    let u = c.requires.tied.each c.args.slot c.in-Some.exchange (sym c.take.ensures.took ∙ c.in-Some.is) in
    awaits_asked (asker_in asked u.number) c.in-Some-remove.client (u.held (Some c.in-Some-remove.client) c.in-Some-remove.ensures.was)

pub returns-clause-polled : goal.returns-clause-polled
returns-clause-polled g c =
    let v = g.D.Dial.meaning c.args.upstream.now.dial in
    let asked = c.args.self.now.askers.list in
    let patience = c.args.upstream.now.patience in
    let u = c.requires.tied.each c.args.slot c.in-Some.exchange (sym c.take.ensures.took ∙ c.in-Some.is) in
    let client = c.in-Some-remove.client in
    subst (λ (l : List ((ℕ × ℕ) × Given)). Polls c.give.result relay_protocol (AllAgree (given_in l)) c.args.table.now c.remove.new.self) (sym c.and-self.ensures)
    (gives_polled asked c.args.self.now.replies.list c.args.table.now c.remove.new.self c.in-Some.exchange.conn c.in-Ok.reply client (asker_in asked u.number) (u.held (Some client) c.in-Some-remove.ensures.was)
    (c.requires.kept.sent u.number u.live.accepted).plain c.in-Some-remove.ensures.was c.in-Some-remove.ensures.number c.in-Some-remove.ensures.relists c.in-Some-remove.ensures.count c.give.result c.give.ensures.gives)

pub returns-clause-kept : goal.returns-clause-kept
returns-clause-kept g c =
    let v = g.D.Dial.meaning c.args.upstream.now.dial in
    let asked = c.args.self.now.askers.list in
    let patience = c.args.upstream.now.patience in
    let u = c.requires.tied.each c.args.slot c.in-Some.exchange (sym c.take.ensures.took ∙ c.in-Some.is) in
    let w = g.D.Dial.meaning c.close_exchange.new.dial in
    let client = c.in-Some-remove.client in
    let list = c.args.self.now.replies.list in
    subst (λ (l : List ((ℕ × ℕ) × Given)). IsKept patience w asked (given_in l)) (sym c.and-self.ensures)
    (kept_given patience w asked list c.in-Some.exchange.conn (answered_of client.talk.session) (given_on client.talk.session c.in-Ok.reply)
    (closed_kept patience v w asked list (IsListed c.args.table.now) c.args.slot c.in-Some.exchange u c.close_exchange.ensures.closes c.requires.kept)
    (answered_stream patience v w asked (IsListed c.args.table.now) c.args.slot c.in-Some.exchange c.args.far c.in-Ok.reply client u
    (over_at v c.args.self.now.exchanges.items c.args.slot c.args.far c.in-Some.exchange c.requires.over (sym c.take.ensures.took ∙ c.in-Some.is))
    c.close_exchange.ensures.closes c.in-Ok.ensures.reply c.in-Some-remove.ensures.was c.in-Some-remove.ensures.number))

pub returns-clause-tied : goal.returns-clause-tied
returns-clause-tied g c = λ accepted owned.
    let v = g.D.Dial.meaning c.args.upstream.now.dial in
    let asked = c.args.self.now.askers.list in
    let patience = c.args.upstream.now.patience in
    let u = c.requires.tied.each c.args.slot c.in-Some.exchange (sym c.take.ensures.took ∙ c.in-Some.is) in
    let w = g.D.Dial.meaning c.close_exchange.new.dial in
    let client = c.in-Some-remove.client in
    let x = c.in-Some.exchange in
    let exchanges = c.take.new.exchanges.items in
    gives_tied asked c.args.self.now.replies.list c.args.table.now c.remove.new.self x.conn c.in-Ok.reply client (asker_in asked u.number) (u.held (Some client) c.in-Some-remove.ensures.was)
    (c.requires.kept.sent u.number u.live.accepted).plain c.in-Some-remove.ensures.was c.in-Some-remove.ensures.number c.in-Some-remove.ensures.relists c.in-Some-remove.ensures.count
    (λ (n : ℕ). IsTiedBut w patience asked exchanges (IsListed c.remove.new.self) n) c.give.result accepted
    (tied_over patience v w asked c.args.self.now.exchanges.items exchanges (IsListed c.args.table.now) c.args.slot x None c.requires.tied (sym c.take.ensures.took ∙ c.in-Some.is) c.take.ensures.puts u.number u.is
    (closes_only v w c.args.slot u.number c.close_exchange.ensures.closes u.is u.live.accepted) (IsListed c.remove.new.self) client refl c.requires.once c.requires.kept.count c.in-Some-remove.ensures.was c.in-Some-remove.ensures.relists.others)
    owned c.give.ensures.gives

pub returns-clause-fits : goal.returns-clause-fits
returns-clause-fits g c = λ apps fits.
    let v = g.D.Dial.meaning c.args.upstream.now.dial in
    let asked = c.args.self.now.askers.list in
    let patience = c.args.upstream.now.patience in
    let u = c.requires.tied.each c.args.slot c.in-Some.exchange (sym c.take.ensures.took ∙ c.in-Some.is) in
    let client = c.in-Some-remove.client in
    let list = c.args.self.now.replies.list in
    agreed_before c.in-Some.exchange.conn (answered_of client.talk.session) (given_on client.talk.session c.in-Ok.reply) list
    (given_new patience v asked list (IsListed c.args.table.now) c.args.slot c.in-Some.exchange client u c.requires.kept c.requires.once c.in-Some-remove.ensures.was c.in-Some-remove.ensures.number) apps
    (subst (λ (l : List ((ℕ × ℕ) × Given)). AllAgree (given_in l) apps) c.and-self.ensures fits)
