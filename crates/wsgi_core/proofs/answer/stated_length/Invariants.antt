use Rattle.std.proofs.Common.{◌≡◌, take, codes}
use Rattle.http_messages.specs.Requests.{values}
use Rattle.wsgi_core.specs.Answer.{stated_by}
use Rattle.wsgi_core.proofs.answer.stated_length.Given as goal

abbrev pub invariant-loop-header : goal.invariant-loop-header
invariant-loop-header l = l.stated ≡ stated_by (values (codes "Content-Length") (take l.header-index l.fn.headers))
