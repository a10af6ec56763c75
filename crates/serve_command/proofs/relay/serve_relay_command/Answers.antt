use Rattle.std.proofs.Common.{ap, ℕ, subst, ◌∙◌}
use Rattle.stream_dial.specs.Dials.{DialMeaning}
use Rattle.wsgi_relay.specs.Relaying.{HasRelayed}
use Rattle.serve_command.proofs.Ends.{none_told, told_first}
use Rattle.serve_command.proofs.RelayEnds.{none_served_relay, serves_relay_so}
use Rattle.serve_command.proofs.relay.serve_relay_command.Goals as goal

pub serve_relay-requires-clause-opened_none : goal.serve_relay-requires-clause-opened_none
serve_relay-requires-clause-opened_none g c = record {
  none = ap (λ (m : DialMeaning). m.streams) c.aim.ensures ∙ c.requires.opened_none.none;
  none_at = ap (λ (m : DialMeaning). m.opened) c.aim.ensures ∙ c.requires.opened_none.none_at;
}

pub returns-in-Err-clause-serves : goal.returns-in-Err-clause-serves
returns-in-Err-clause-serves g c =
    let u = c.in-Err.ensures.unopened in
    none_served_relay c.in-Err.end c.args.relay.pass c.args.relay.patience c.args.relay.terms.port c.args.relay.terms.limits (g.N.Net.meaning c.open_port.new.net) (g.D.Dial.meaning c.aim.new.self) (g.K.Sink.written c.args.out.now) (g.K.Sink.written c.open_port.new.out) u.port
    u.unfinished u.not_jobs c.open_port.ensures.fresh.none c.open_port.ensures.fresh.none_live u.begins u.listens (ap (λ (m : DialMeaning). m.streams) c.aim.ensures ∙ c.requires.opened_none.none)

pub returns-in-Err-clause-told : goal.returns-in-Err-clause-told
returns-in-Err-clause-told g c = none_told c.args.relay.terms.port (g.N.Net.meaning c.open_port.new.net) _ _ c.open_port.ensures.fresh.none

pub returns-clause-serves : goal.returns-clause-serves
returns-clause-serves g c =
    let s = c.serve_relay.ensures in
    let e = c.served_end-end.ensures in
    let t = c.tell_end.ensures in
    serves_relay_so c.args.relay.pass c.args.relay.patience c.args.relay.terms.port c.args.relay.terms.limits (g.N.Net.meaning c.serve_relay.new.net) (g.D.Dial.meaning c.serve_relay.new.upstream.dial) (g.K.Sink.written c.args.out.now) (g.K.Sink.written c.open_port.new.out) (g.K.Sink.written c.tell_end.new.out) c.in-Ok.port c.served_end-end.result c.tell_end.result
    c.in-Ok.ensures.told s.rest_but s.most s.within (s.listens ∙ c.in-Ok.ensures.listens) t.stays e.no_line t.begins t.told t.silent
    (λ f. s.finished (e.finished f)) (λ f. s.resting (e.listener f)) e.no_jobs (subst (λ (ms : ℕ). HasRelayed c.in-Ok.port c.args.relay.terms.limits.idle ms (g.N.Net.meaning c.serve_relay.new.net).connections (g.D.Dial.meaning c.serve_relay.new.upstream.dial)) s.patience s.relayed) (s.towards ∙ ap (λ (m : DialMeaning). m.towards) c.aim.ensures)

pub returns-clause-told : goal.returns-clause-told
returns-clause-told g c =
    told_first c.args.relay.terms.port c.in-Ok.port (g.N.Net.meaning c.serve_relay.new.net) (g.K.Sink.written c.args.out.now) _ _ _ c.in-Ok.ensures.told c.in-Ok.ensures.handed c.tell_end.ensures.never_taken_back
    (c.serve_relay.ensures.listens ∙ c.in-Ok.ensures.listens)
