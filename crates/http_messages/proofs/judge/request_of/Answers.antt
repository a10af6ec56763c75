use Rattle.std.proofs.Common.{◌∙◌, sym}
use Rattle.std.proofs.lemmas.Result.{IfOk-weaker}
use Rattle.http_messages.proofs.JudgeLaws.{request_refused, request_framed_as}
use Rattle.http_messages.proofs.judge.request_of.Goals as goal

pub returns-then-is_allowed_target : goal.returns-then-is_allowed_target
returns-then-is_allowed_target c =
    let head = c.args.head.now in
    IfOk-weaker c.framed_request.result _ _
    (λ judged e. e ∙ request_framed_as head.port head.method.now head.target.now head.minor head.fields
    (sym c.is_allowed_target.ensures ∙ c.if-is_allowed_target.true))
    c.framed_request.ensures

pub returns-else-is_allowed_target : goal.returns-else-is_allowed_target
returns-else-is_allowed_target c =
    let head = c.args.head.now in
    request_refused head.port head.method.now head.target.now head.minor head.fields
    (sym c.is_allowed_target.ensures ∙ c.if-is_allowed_target.false)
