use Rattle.std.proofs.Common.{sym, ap, ◌∙◌, ◌++◌, ℕ}
use Rattle.wsgi_core.specs.Session.{answers}
use Rattle.wsgi_core.specs.Steps.{progress_of}
use Rattle.wsgi_core.proofs.ProgressLaws.{due_fed}
use Rattle.wsgi_core.proofs.ProgressSteps.{one_err}
use Rattle.wsgi_core.proofs.session.Session.feed_open.Goals as goal

pub returns-clause-due : goal.returns-clause-due
returns-clause-due g c =
    let app = g.A.Application.answer_of c.args.app.now in
    one_err c.answer_all.result _ _ c.answer_all.ensures.due
    (λ due fed taken h.
    let d = due_fed app (fed ++ c.args.piece.now) taken (progress_of c.take_open.new.self) c.answer_all.new.self.pending
    (c.in_ok-take_open.ensures.stands app fed taken h) due in
    (d.0, ap (λ (n : ℕ). (answers app n (fed ++ c.args.piece.now)).bytes) (sym c.take_open.ensures.same_port) ∙ d.1))
