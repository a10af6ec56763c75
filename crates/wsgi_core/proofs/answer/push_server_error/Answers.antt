use Rattle.std.proofs.Common.{Bool, List, codes, refl, ℕ}
use Rattle.wsgi_core.specs.Answer.{server_error}
use Rattle.wsgi_core.proofs.AnswerLaws.{head_alone, head_and_body}
use Rattle.wsgi_core.proofs.ProgressSteps.{one_ok}
use Rattle.wsgi_core.proofs.answer.push_server_error.Goals as goal

pub returns-then-request-clause-sent : goal.returns-then-request-clause-sent
returns-then-request-clause-sent c =
    let q = c.args.request.now in
    let sent_to : Bool → List ℕ = λ is_head. (server_error (record q { is_head = is_head })).bytes in
    head_alone sent_to (codes "Internal Server Error") refl q.is_head c.args.out.now c.append.new.self c.in_ok-append.ensures.ok c.if-request.true

pub returns-clause-sent : goal.returns-clause-sent
returns-clause-sent c =
    let q = c.args.request.now in
    let sent_to : Bool → List ℕ = λ is_head. (server_error (record q { is_head = is_head })).bytes in
    one_ok c.append-2.result _ _ c.append-2.ensures.ok
    (head_and_body sent_to (codes "Internal Server Error") refl q.is_head c.args.out.now c.append.new.self c.in_ok-append.ensures.ok c.append-2.new.self c.if-request.false)
