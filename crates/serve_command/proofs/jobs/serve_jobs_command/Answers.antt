use Rattle.std.proofs.Common.{◌∙◌}
use Rattle.serve_command.proofs.Ends.{none_told, told_first}
use Rattle.serve_command.proofs.JobsEnds.{none_served_jobs, serves_jobs_so}
use Rattle.serve_command.proofs.jobs.serve_jobs_command.Goals as goal

pub returns-in-Err-clause-serves : goal.returns-in-Err-clause-serves
returns-in-Err-clause-serves g c =
    let u = c.in-Err.ensures.unopened in
    none_served_jobs c.in-Err.end c.args.terms.port c.args.terms.limits (g.N.Net.meaning c.open_port.new.net) (g.W.World.meaning c.args.world.now) (g.K.Sink.written c.args.out.now) (g.K.Sink.written c.open_port.new.out) u.port
    u.unfinished u.not_jobs c.open_port.ensures.fresh.none c.open_port.ensures.fresh.none_live u.begins u.listens

pub returns-in-Err-clause-told : goal.returns-in-Err-clause-told
returns-in-Err-clause-told g c = none_told c.args.terms.port (g.N.Net.meaning c.open_port.new.net) _ _ c.open_port.ensures.fresh.none

pub returns-clause-serves : goal.returns-clause-serves
returns-clause-serves g c =
    let s = c.serve_jobs.ensures in
    let e = c.served_end-end.ensures in
    let t = c.tell_end.ensures in
    serves_jobs_so c.args.terms.port c.args.terms.limits (g.N.Net.meaning c.serve_jobs.new.net) (g.W.World.meaning c.serve_jobs.new.world) (g.K.Sink.written c.args.out.now) (g.K.Sink.written c.open_port.new.out) (g.K.Sink.written c.tell_end.new.out) c.in-Ok.port c.served_end-end.result c.tell_end.result
    c.in-Ok.ensures.told s.own s.whole s.answered s.rest_but s.cause s.most s.within (s.listens ∙ c.in-Ok.ensures.listens) t.stays e.no_line t.begins t.told t.silent
    (λ f. s.finished (e.finished f)) (λ f. s.resting (e.listener f)) (λ f. s.no_jobs (e.no_jobs f)) s.earned (λ vain. e.spent (s.out_of_jobs vain))

pub returns-clause-told : goal.returns-clause-told
returns-clause-told g c =
    told_first c.args.terms.port c.in-Ok.port (g.N.Net.meaning c.serve_jobs.new.net) (g.K.Sink.written c.args.out.now) _ _ _ c.in-Ok.ensures.told c.in-Ok.ensures.handed c.tell_end.ensures.never_taken_back
    (c.serve_jobs.ensures.listens ∙ c.in-Ok.ensures.listens)
