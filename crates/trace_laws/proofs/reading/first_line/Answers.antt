use Rattle.std.proofs.Common.{◌+◌, sym, ◌∙◌}
use Rattle.trace_laws.proofs.Feeds.{first_of, line_at, no_line, none_first, refused_first}
use Rattle.trace_laws.proofs.reading.first_line.Goals as goal

pub returns-in_default : goal.returns-in_default
returns-in_default c = none_first c.args.text.now (sym c.line_end.ensures ∙ c.in_default.is)

pub returns-in-Ok : goal.returns-in-Ok
returns-in-Ok c =
    first_of c.args.text.now c.in-Ok.line (c.in-Some.end + 1) c.first_at-first.result
    (line_at c.args.text.now c.in-Some.end c.in-Ok.line (sym c.line_end.ensures ∙ c.in-Some.is) c.in-Ok.ensures.fits c.in-Ok.ensures.line) c.first_at-first.ensures

pub returns-in-Err-NotALine : goal.returns-in-Err-NotALine
returns-in-Err-NotALine c =
    refused_first c.args.text.now c.in-Some.end (sym c.line_end.ensures ∙ c.in-Some.is)
    (no_line _ c.read_line.result c.in-Err-NotALine.field-0 c.in-Err-NotALine.is c.in-Err-NotALine.field-0-is c.read_line.ensures.refused)
