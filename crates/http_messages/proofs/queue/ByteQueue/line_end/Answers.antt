use Rattle.std.proofs.Common.{◌+◌, ◌-◌, ap, ◌∙◌, arith, take, drop, ℕ, List}
use Rattle.http_messages.specs.Cuts.{line_end}
use Rattle.http_messages.proofs.ScanLaws.{none_within}
use Rattle.http_messages.proofs.queue.ByteQueue.line_end.Goals as goal

pub scan_line-end-requires-clause-none : goal.scan_line-end-requires-clause-none
scan_line-end-requires-clause-none c =
    ap (λ (l : List ℕ). line_end (take c.min.result (take (c.self.inside.start + c.min-limit.result - c.self.inside.start) (drop c.self.inside.start l)))) c.deref.ensures.value
    ∙ none_within c.min.result (c.self.inside.start + c.min-limit.result - c.self.inside.start) c.self.inside.line (drop c.self.inside.start c.self.inside.bytes.items)
    (omega arith) c.self.invariant.no_line
