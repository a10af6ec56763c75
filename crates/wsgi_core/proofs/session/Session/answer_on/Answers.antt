use Rattle.wsgi_core.specs.Steps.{progress_of}
use Rattle.wsgi_core.proofs.ProgressLaws.{due-same, due-then, on_err}
use Rattle.wsgi_core.proofs.ProgressSteps.{one_err}
use Rattle.wsgi_core.proofs.session.Session.answer_on.Goals as goal

pub returns-in_err-answer_asked-clause-due : goal.returns-in_err-answer_asked-clause-due
returns-in_err-answer_asked-clause-due c =
    on_err c.from_residual.result _ (λ app _. due-same app (progress_of c.args.self.now) c.answer_asked.new.self.pending c.in_err-answer_asked.ensures.err)

pub returns-clause-due : goal.returns-clause-due
returns-clause-due c =
    one_err c.go_on.result _ _ c.go_on.ensures.due
    (λ due app is. due-then app (progress_of c.args.self.now) (progress_of c.answer_asked.new.self) c.go_on.new.self.pending
    (c.in_ok-answer_asked.ensures.goes_on app is) (due app))
