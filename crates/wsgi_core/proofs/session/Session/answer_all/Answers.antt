use Rattle.std.proofs.Common.{sym, subst, ℕ, List}
use Rattle.std.specs.Prelude.{Option}
use Rattle.http_messages.specs.Environ.{Pair}
use Rattle.wsgi_core.specs.Steps.{IsReplyTo, progress_of}
use Rattle.wsgi_core.proofs.ProgressLaws.{due_here, due-then, on_err}
use Rattle.wsgi_core.proofs.session.Session.answer_all.Goals as goal

pub returns-in_err-reply-in-Some-clause-due : goal.returns-in_err-reply-in-Some-clause-due
returns-in_err-reply-in-Some-clause-due g c =
    let app = g.A.Application.answer_of c.args.app.now in
    on_err c.from_residual.result _
    (due-then app (progress_of c.args.self.now) (progress_of c.requests.self) c.requests.self.pending c.requests.invariant.goes_on (due_here app (progress_of c.requests.self)))

pub returns-in_err-answer_on-clause-due : goal.returns-in_err-answer_on-clause-due
returns-in_err-answer_on-clause-due g c =
    let app = g.A.Application.answer_of c.args.app.now in
    let P : Option (List Pair × List ℕ) → Type 0 = λ asked. IsReplyTo app c.requests.self.answered.count asked c.in_ok-reply-in-Some.reply in
    on_err c.from_residual-in_err-answer_on.result _
    (due-then app (progress_of c.args.self.now) (progress_of c.requests.self) c.answer_on.new.self.pending c.requests.invariant.goes_on
    (c.in_err-answer_on.ensures.due app (subst P (sym c.in-Some.ensures) (c.in_ok-reply-in-Some.ensures c.requests.self.answered.count))))
