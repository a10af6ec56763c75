use Rattle.std.proofs.Common.{◌≡◌, drop}
use Rattle.std.specs.List.{list_all}
use Rattle.wsgi_core.specs.Answer.{is_header}
use Rattle.wsgi_core.proofs.answer.are_headers.Given as goal

abbrev pub invariant-loop-header : goal.invariant-loop-header
invariant-loop-header l = list_all is_header l.fn.headers ≡ list_all is_header (drop l.header-index l.fn.headers)
