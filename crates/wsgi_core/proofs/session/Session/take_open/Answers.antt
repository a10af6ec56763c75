use Rattle.std.proofs.Common.{refl, ◌++◌}
use Rattle.wsgi_core.specs.Steps.{progress_of}
use Rattle.wsgi_core.proofs.ProgressLaws.{progress_at, stands_kept, stands_on, due_fed, due_here, on_err}
use Rattle.wsgi_core.proofs.ProgressSteps.{one_err, one_ok}
use Rattle.wsgi_core.proofs.session.Session.take_open.Goals as goal

pub returns-clause-stands : goal.returns-clause-stands
returns-clause-stands c =
    let s = c.args.self.now in
    one_ok c.go_on.result _ _ c.go_on.ensures.goes_on
    (λ goes_on app fed taken h.
    stands_on app (fed ++ c.args.piece.now) taken (progress_at s.port s.answered.count s.stage c.append.new.self s.pending s.closing) (progress_of c.go_on.new.self)
    (goes_on app) c.go_on.ensures.same_port
    (stands_kept app fed taken c.args.piece.now (progress_of s) c.append.new.self c.in_ok-append.ensures.ok h))

pub returns-in_err-append-clause-due : goal.returns-in_err-append-clause-due
returns-in_err-append-clause-due c =
    let s = c.args.self.now in
    on_err c.from_residual.result _
    (λ app fed taken h. due_fed app (fed ++ c.args.piece.now) taken (progress_at s.port s.answered.count s.stage (s.kept ++ c.args.piece.now) s.pending s.closing) s.pending
    (stands_kept app fed taken c.args.piece.now (progress_of s) (s.kept ++ c.args.piece.now) refl h)
    (due_here app (progress_at s.port s.answered.count s.stage (s.kept ++ c.args.piece.now) s.pending s.closing)))

pub returns-clause-due : goal.returns-clause-due
returns-clause-due c =
    let s = c.args.self.now in
    one_err c.go_on.result _ _ c.go_on.ensures.due
    (λ due app fed taken h. due_fed app (fed ++ c.args.piece.now) taken (progress_at s.port s.answered.count s.stage c.append.new.self s.pending s.closing) c.go_on.new.self.pending
    (stands_kept app fed taken c.args.piece.now (progress_of s) c.append.new.self c.in_ok-append.ensures.ok h) (due app))
