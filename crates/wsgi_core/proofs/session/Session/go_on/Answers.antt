use Rattle.wsgi_core.specs.Steps.{progress_of}
use Rattle.wsgi_core.proofs.ProgressLaws.{due-same, due-then, on_err}
use Rattle.wsgi_core.proofs.ProgressSteps.{one_err}
use Rattle.wsgi_core.proofs.session.Session.go_on.Goals as goal

pub returns-then-not-is_at_head-clause-due : goal.returns-then-not-is_at_head-clause-due
returns-then-not-is_at_head-clause-due c =
    one_err c.read_body.result _ _ c.read_body.ensures.err (λ e app. due-same app (progress_of c.args.self.now) c.read_body.new.self.pending e)

pub returns-in_err-read_head-clause-due : goal.returns-in_err-read_head-clause-due
returns-in_err-read_head-clause-due c =
    on_err c.from_residual.result _ (λ app. due-same app (progress_of c.args.self.now) c.read_head.new.self.pending c.in_err-read_head.ensures.err)

pub returns-clause-due : goal.returns-clause-due
returns-clause-due c =
    one_err c.read_body-2.result _ _ c.read_body-2.ensures.err
    (λ e app. due-then app (progress_of c.args.self.now) (progress_of c.read_head.new.self) c.read_body-2.new.self.pending (c.in_ok-read_head.ensures.goes_on app)
    (due-same app (progress_of c.read_head.new.self) c.read_body-2.new.self.pending e))
