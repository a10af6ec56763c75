use Rattle.std.proofs.Common.{sym, ap, ◌∙◌, ◌≡◌, length}
use Rattle.httparse.specs.declared.spans.RequestSpans.{RequestSpans}
use Rattle.http_messages.proofs.HeadReads.{whole_head, no_head}
use Rattle.http_messages.proofs.head.read_head.Goals as goal

pub returns-then-spans-head-clause-found : goal.returns-then-spans-head-clause-found
returns-then-spans-head-clause-found c =
    whole_head c.args.head.now c.parse_request.new.headers c.in-Ok-Complete.spans
    (rw c.in-Ok-Complete.field-0-is at c.in-Ok-Complete.ensures.within) (rw c.in-Ok-Complete.field-0-is at c.in-Ok-Complete.ensures.complete)
    c.if-spans-head.true (c.parse_request.auto.headers ∙ c.requires.room) c.requires.begun

pub returns-else-spans-head-clause-none : goal.returns-else-spans-head-clause-none
returns-else-spans-head-clause-none c =
    no_head c.args.head.now c.parse_request.new.headers (length c.args.headers.now) c.parse_request.result c.parse_request.ensures.found c.requires.room
    (λ spans e all.
    let same : spans ≡ c.in-Ok-Complete.spans = cc (c.in-Ok-Complete.is, c.in-Ok-Complete.field-0-is) in
    c.if-spans-head.false (ap (λ (s : RequestSpans). s.len) (sym same) ∙ all))

pub returns-in-Ok-Partial-clause-none : goal.returns-in-Ok-Partial-clause-none
returns-in-Ok-Partial-clause-none c =
    no_head c.args.head.now c.parse_request.new.headers (length c.args.headers.now) c.parse_request.result c.parse_request.ensures.found c.requires.room
    (λ spans e all. absurd (cc (c.in-Ok-Partial.is, c.in-Ok-Partial.field-0-is)))

pub returns-in-Err-clause-none : goal.returns-in-Err-clause-none
returns-in-Err-clause-none c =
    no_head c.args.head.now c.parse_request.new.headers (length c.args.headers.now) c.parse_request.result c.parse_request.ensures.found c.requires.room
    (λ spans e all. absurd (cc (c.in-Err.is)))
