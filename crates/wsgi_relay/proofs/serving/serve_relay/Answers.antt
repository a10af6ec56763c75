use Rattle.std.proofs.Common.{ap, refl, subst, ℕ, Option}
use Rattle.stream_server.specs.Tables.{IsListed}
use Rattle.stream_server.proofs.Endings.{all_rest, but_rest}
use Rattle.wsgi_relay.specs.Accounts.{given_in}
use Rattle.wsgi_relay.specs.Laws.{relay_agrees, relay_app}
use Rattle.wsgi_relay.specs.Talks.{relay_protocol}
use Rattle.wsgi_relay.proofs.Adding.{asked_none}
use Rattle.wsgi_relay.proofs.Earning.{relayed_by}
use Rattle.wsgi_relay.proofs.Keeping.{kept_none}
use Rattle.wsgi_relay.proofs.Tying.{tied_none}
use Rattle.wsgi_relay.proofs.serving.serve_relay.Goals as goal

pub serve_on-end-requires-clause-tied : goal.serve_on-end-requires-clause-tied
serve_on-end-requires-clause-tied g c = λ table. (
  tied_none c.args.upstream.now.patience (g.D.Dial.meaning c.args.upstream.now.dial) c.new-relays.result.askers.list c.new-relays.result.exchanges.items (IsListed table) c.new-relays.ensures.none,
  kept_none c.args.upstream.now.patience (g.D.Dial.meaning c.args.upstream.now.dial) c.new-relays.result.askers.list c.new-relays.result.replies.list c.requires.opened_none c.new-relays.ensures.none_asked c.new-relays.ensures.none_given,
  asked_none c.new-relays.result.askers.list (IsListed table) 0 c.new-relays.ensures.none_asked,
)

pub serve_on-end-requires-clause-sound : goal.serve_on-end-requires-clause-sound
serve_on-end-requires-clause-sound g c = (
  kept_none c.args.upstream.now.patience (g.D.Dial.meaning c.args.upstream.now.dial) c.new-relays.result.askers.list c.new-relays.result.replies.list c.requires.opened_none c.new-relays.ensures.none_asked c.new-relays.ensures.none_given,
  (asked_none c.new-relays.result.askers.list (λ k s. ⊥) 0 c.new-relays.ensures.none_asked).once,
)

pub end_of-requires : goal.end_of-requires
end_of-requires g c = λ e. (c.serve_on-end.ensures.in_vain e).spent

pub returns-clause-relayed : goal.returns-clause-relayed
returns-clause-relayed g c =
    let s = c.serve_on-end.new.service in
    let u = c.serve_on-end.new.world in
    relayed_by u.patience c.args.terms (g.N.Net.meaning c.serve_on-end.new.net) (g.D.Dial.meaning u.dial) s.askers.list (given_in s.replies.list) c.serve_on-end.ensures.sound.0 c.serve_on-end.ensures.sound.1 c.serve_on-end.ensures.left

pub returns-clause-patience : goal.returns-clause-patience
returns-clause-patience g c = ap (λ (p : ℕ × Option ℕ). p.0) c.serve_on-end.ensures.lasting

pub returns-clause-towards : goal.returns-clause-towards
returns-clause-towards g c = ap (λ (p : ℕ × Option ℕ). p.1) c.serve_on-end.ensures.lasting

pub returns-clause-most : goal.returns-clause-most
returns-clause-most g c = (c.serve_on-end.ensures.left (relay_app (given_in c.serve_on-end.new.service.replies.list)) (relay_agrees (given_in c.serve_on-end.new.service.replies.list))).most

pub returns-clause-within : goal.returns-clause-within
returns-clause-within g c = (c.serve_on-end.ensures.left (relay_app (given_in c.serve_on-end.new.service.replies.list)) (relay_agrees (given_in c.serve_on-end.new.service.replies.list))).within

pub returns-clause-rest_but : goal.returns-clause-rest_but
returns-clause-rest_but g c =
    but_rest relay_protocol.holds (g.N.Net.meaning c.serve_on-end.new.net).connections (c.serve_on-end.ensures.left (relay_app (given_in c.serve_on-end.new.service.replies.list)) (relay_agrees (given_in c.serve_on-end.new.service.replies.list))).rest

pub returns-clause-resting : goal.returns-clause-resting
returns-clause-resting g c = λ e. all_rest relay_protocol.holds (g.N.Net.meaning c.serve_on-end.new.net).connections (c.serve_on-end.ensures.resting (c.end_of.ensures.listener e))
