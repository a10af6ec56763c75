use Rattle.std.proofs.Common.{◌≡◌, ◌++◌, ◌∙◌, sym, ap}
use Rattle.std.proofs.lemmas.Result.{IfOk-weaker}
use Rattle.wsgi_core.specs.declared.reply.Reply.{Reply}
use Rattle.wsgi_core.specs.Answer.{Sent, answer, ending, sent_by, sent_for}
use Rattle.wsgi_core.proofs.AnswerLaws.{answer_faulty, answer_sent}
use Rattle.wsgi_core.proofs.ProgressSteps.{one_ok}
use Rattle.wsgi_core.proofs.answer.push_reply.Goals as goal

pub returns-then-is_faulty-clause-sent : goal.returns-then-is_faulty-clause-sent
returns-then-is_faulty-clause-sent c =
    c.in_ok-push_server_error.ensures.sent
    ∙ ap (λ (s : Sent). c.args.out.now ++ s.bytes) (sym (answer_faulty c.args.request.now c.args.reply.now (sym c.if-is_faulty.ensures)))

pub returns-then-is_faulty-clause-closes : goal.returns-then-is_faulty-clause-closes
returns-then-is_faulty-clause-closes c = sym (ap (λ (s : Sent). s.closes) (answer_faulty c.args.request.now c.args.reply.now (sym c.if-is_faulty.ensures)))

pub returns-in-Started-clause-sent : goal.returns-in-Started-clause-sent
returns-in-Started-clause-sent c =
    let q = c.args.request.now in
    let r = c.in-Started.response in
    let e : answer q c.args.reply.now ≡ sent_by q (ending q r) r =
    answer_sent q c.args.reply.now (sym c.if-is_faulty.ensures) ∙ ap (λ (x : Reply). sent_for q x) c.in-Started.is in
    one_ok c.push_started.result _ _ c.push_started.ensures.sent (λ h. h ∙ ap (λ (s : Sent). c.args.out.now ++ s.bytes) (sym e))

pub returns-in-Started-clause-closes : goal.returns-in-Started-clause-closes
returns-in-Started-clause-closes c =
    let q = c.args.request.now in
    let r = c.in-Started.response in
    let e : answer q c.args.reply.now ≡ sent_by q (ending q r) r =
    answer_sent q c.args.reply.now (sym c.if-is_faulty.ensures) ∙ ap (λ (x : Reply). sent_for q x) c.in-Started.is in
    IfOk-weaker c.push_started.result _ _ (λ closes h. h ∙ ap (λ (s : Sent). s.closes) (sym e)) c.push_started.ensures.closes
