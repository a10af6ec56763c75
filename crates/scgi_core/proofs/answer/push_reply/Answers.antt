use Rattle.std.proofs.Common.{◌≡◌, ◌++◌, ◌∙◌, sym, ap, List, ℕ}
use Rattle.wsgi_core.specs.declared.reply.Reply.{Reply}
use Rattle.wsgi_core.proofs.ProgressSteps.{one_ok}
use Rattle.scgi_core.specs.Answer.{cgi_answer, answer_for, started}
use Rattle.scgi_core.proofs.AnswerLaws.{answer_faulty, answer_sent}
use Rattle.scgi_core.proofs.answer.push_reply.Goals as goal

pub returns-then-is_faulty-clause-sent : goal.returns-then-is_faulty-clause-sent
returns-then-is_faulty-clause-sent c =
    let e = answer_faulty c.args.is_head c.args.reply.now (sym c.if-is_faulty.ensures) in
    one_ok c.push_server_error.result _ _ c.push_server_error.ensures.sent (λ h. h ∙ ap (λ (l : List ℕ). c.args.out.now ++ l) (sym e))

pub returns-in-Started-clause-sent : goal.returns-in-Started-clause-sent
returns-in-Started-clause-sent c =
    let e : cgi_answer c.args.is_head c.args.reply.now ≡ started c.args.is_head c.in-Started.response =
    answer_sent c.args.is_head c.args.reply.now (sym c.if-is_faulty.ensures)
    ∙ ap (λ (x : Reply). answer_for c.args.is_head x) c.in-Started.is in
    one_ok c.push_started.result _ _ c.push_started.ensures.sent (λ h. h ∙ ap (λ (l : List ℕ). c.args.out.now ++ l) (sym e))
