use Rattle.std.proofs.Common.{◌≢◌, ◌∙◌}
use Rattle.stream_net.specs.Net.{Connection}
use Rattle.stream_net.specs.declared.net.Quiet.TheVariants.{Awake}
use Rattle.stream_server.specs.Serving.{Rests}
use Rattle.serve_command.proofs.Ends.{closed_rest, none_served, none_told, serves_so, told_first}
use Rattle.serve_command.proofs.serving.serve_command.Goals as goal

pub returns-in-Err-clause-serves : goal.returns-in-Err-clause-serves
returns-in-Err-clause-serves g c =
    let u = c.in-Err.ensures.unopened in
    none_served Rests (λ port. ⊥) c.in-Err.end c.args.terms.port g.T.Talk.answers (g.A.Application.answer_of c.args.app.now) c.args.terms.limits (g.N.Net.meaning c.open_port.new.net) (g.K.Sink.written c.args.out.now) (g.K.Sink.written c.open_port.new.out) u.port
    u.unfinished u.not_jobs c.open_port.ensures.fresh.none c.open_port.ensures.fresh.none_live u.begins u.listens

pub returns-in-Err-clause-told : goal.returns-in-Err-clause-told
returns-in-Err-clause-told g c = none_told c.args.terms.port (g.N.Net.meaning c.open_port.new.net) _ _ c.open_port.ensures.fresh.none

pub returns-clause-serves : goal.returns-clause-serves
returns-clause-serves g c =
    let s = c.serve_with.ensures in
    let e = c.served_end-end.ensures in
    let t = c.tell_end.ensures in
    serves_so Rests (λ port. ⊥) c.args.terms.port g.T.Talk.answers (g.A.Application.answer_of c.args.app.now) c.args.terms.limits (g.N.Net.meaning c.serve_with.new.net) (g.K.Sink.written c.args.out.now) (g.K.Sink.written c.open_port.new.out) (g.K.Sink.written c.tell_end.new.out) c.in-Ok.port c.served_end-end.result c.tell_end.result
    c.in-Ok.ensures.told s.own s.whole s.answered s.rest_but s.cause s.most s.within (s.listens ∙ c.in-Ok.ensures.listens) t.stays e.no_line t.begins t.told t.silent
    (λ f. s.finished (e.finished f)) (closed_rest (λ (d : Connection). d.quiet ≢ Awake) (g.N.Net.meaning c.serve_with.new.net).connections) (λ f. s.resting (e.listener f)) e.no_jobs

pub returns-clause-told : goal.returns-clause-told
returns-clause-told g c =
    told_first c.args.terms.port c.in-Ok.port (g.N.Net.meaning c.serve_with.new.net) (g.K.Sink.written c.args.out.now) _ _ _ c.in-Ok.ensures.told c.in-Ok.ensures.handed c.tell_end.ensures.never_taken_back
    (c.serve_with.ensures.listens ∙ c.in-Ok.ensures.listens)
