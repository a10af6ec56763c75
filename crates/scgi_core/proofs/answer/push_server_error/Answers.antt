use Rattle.std.proofs.Common.{codes, refl}
use Rattle.wsgi_core.proofs.AnswerLaws.{head_alone, head_and_body}
use Rattle.wsgi_core.proofs.ProgressSteps.{one_ok}
use Rattle.scgi_core.specs.Answer.{cgi_server_error}
use Rattle.scgi_core.proofs.answer.push_server_error.Goals as goal

pub returns-then-is_head-clause-sent : goal.returns-then-is_head-clause-sent
returns-then-is_head-clause-sent c =
    head_alone cgi_server_error (codes "Internal Server Error") refl c.args.is_head c.args.out.now c.append.new.self c.in_ok-append.ensures.ok c.if-is_head.true

pub returns-clause-sent : goal.returns-clause-sent
returns-clause-sent c =
    one_ok c.append-2.result _ _ c.append-2.ensures.ok
    (head_and_body cgi_server_error (codes "Internal Server Error") refl c.args.is_head c.args.out.now c.append.new.self c.in_ok-append.ensures.ok c.append-2.new.self c.if-is_head.false)
