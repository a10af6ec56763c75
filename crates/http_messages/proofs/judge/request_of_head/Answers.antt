use Rattle.std.proofs.Common.{◌∙◌, sym}
use Rattle.std.proofs.lemmas.Result.{IfOk-weaker}
use Rattle.http_messages.specs.Head.{request_head}
use Rattle.http_messages.specs.Requests.{request_of}
use Rattle.http_messages.proofs.JudgeLaws.{judged_none, judged_some}
use Rattle.http_messages.proofs.judge.request_of_head.Goals as goal

pub returns-in-None : goal.returns-in-None
returns-in-None c = judged_none c.args.port (request_head c.args.head.now) c.in-None.ensures.none

pub returns-in-Some : goal.returns-in-Some
returns-in-Some c =
    let found = c.in-Some.ensures.found in
    let h = found.0 in
    let at = found.3 in
    IfOk-weaker c.request_of.result _ _
    (λ judged e. e
    ∙ (λ i. request_of c.args.port ((c.of.ensures ∙ at.method) i) ((c.of-in-Some.ensures ∙ at.path) i) (at.version i) ((c.new-fields.ensures ∙ at.fields) i))
    ∙ sym (judged_some c.args.port (request_head c.args.head.now) h found.1 found.2))
    c.request_of.ensures
