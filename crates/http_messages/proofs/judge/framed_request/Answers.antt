use Rattle.std.proofs.Common.{◌∙◌, sym, ap}
use Rattle.http_messages.specs.Requests.{on_framing}
use Rattle.http_messages.proofs.judge.framed_request.Goals as goal

pub returns-in-Err : goal.returns-in-Err
returns-in-Err c =
    let head = c.args.head.now in
    sym (ap (on_framing head.port head.method.now head.target.now head.minor head.fields) (sym c.in_ok-framing.ensures ∙ c.in-Err.is))
