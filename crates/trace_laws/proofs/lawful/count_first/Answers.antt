use Rattle.std.proofs.Common.{◌+◌, subst, sym, ◌∙◌}
use Rattle.std.specs.Prelude.{Err}
use Rattle.trace_laws.specs.Counting.{IsCountedFirst}
use Rattle.trace_laws.proofs.Causes.{begins_with}
use Rattle.trace_laws.proofs.Feeds.{line_at, no_line, none_first, refused_first}
use Rattle.trace_laws.proofs.LawReads.{counted_ok, counted_refused}
use Rattle.trace_laws.proofs.lawful.count_first.Goals as goal

pub returns-in_default : goal.returns-in_default
returns-in_default c = λ lines s. none_first c.args.text.now (sym c.line_end.ensures ∙ c.in_default.is)

pub returns-in-Ok-counted : goal.returns-in-Ok-counted
returns-in-Ok-counted c = λ lines s. (
  c.in-Ok.line,
  line_at c.args.text.now c.in-Some.end c.in-Ok.line (sym c.line_end.ensures ∙ c.in-Some.is) c.in-Ok.ensures.fits c.in-Ok.ensures.line,
  counted_ok c.step-counted.new.self lines c.in-Ok.line c.step-counted.result c.in-Ok-counted.field-0 (c.step-counted.ensures.judged lines s) c.in-Ok-counted.is,
)

pub returns-in-Err : goal.returns-in-Err
returns-in-Err c = λ lines s.
    let at = line_at c.args.text.now c.in-Some.end c.in-Ok.line (sym c.line_end.ensures ∙ c.in-Some.is) c.in-Ok.ensures.fits c.in-Ok.ensures.line in
    subst (λ fault. IsCountedFirst c.args.text.now lines c.step-counted.new.self (Err fault)) (sym c.fault_of.ensures)
    (counted_refused c.args.text.now c.step-counted.new.self lines c.in-Ok.line c.step-counted.result c.in-Err.refusal (begins_with c.args.text.now c.in-Ok.line (c.in-Some.end + 1) at) (c.step-counted.ensures.judged lines s)
    c.in-Err.is)

pub returns-in-Err-NotALine : goal.returns-in-Err-NotALine
returns-in-Err-NotALine c = λ lines s.
    refused_first c.args.text.now c.in-Some.end (sym c.line_end.ensures ∙ c.in-Some.is)
    (no_line _ c.read_line.result c.in-Err-NotALine.field-0 c.in-Err-NotALine.is c.in-Err-NotALine.field-0-is c.read_line.ensures.refused)
