use Rattle.std.proofs.Common.{refl, sym, ap, ◌∙◌, ℕ}
use Rattle.wsgi_core.specs.Session.{answers}
use Rattle.wsgi_core.specs.Steps.{progress_of}
use Rattle.wsgi_core.proofs.ProgressLaws.{due_fed}
use Rattle.wsgi_core.proofs.ProgressSteps.{one_err}
use Rattle.wsgi_core.proofs.session.Session.answer.Goals as goal

pub returns-then-is_err-clause-stopped : goal.returns-then-is_err-clause-stopped
returns-then-is_err-clause-stopped c =
    one_err c.answer_on-answered.result _ _ c.answer_on-answered.ensures.due
    (λ due app port fed ended taken is h.
    let d = due_fed app fed taken (progress_of c.args.self.now) c.answer_on-answered.new.self.pending h.stands (due app is) in
    record { closing = refl; tail = d.0; due = ap (λ (n : ℕ). (answers app n fed).bytes) (sym h.same_port) ∙ d.1 })
