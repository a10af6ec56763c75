use Rattle.std.proofs.Common.{sym, ap, ◌∙◌}
use Rattle.std.specs.List.{position}
use Rattle.trace_laws.specs.Parts.{is_marked}
use Rattle.trace_laws.specs.Reads.{is_feed}
use Rattle.trace_laws.proofs.Parting.{no_more, one_more}
use Rattle.trace_laws.proofs.parts.mark_place.Goals as goal

pub returns-in-None-clause-parts : goal.returns-in-None-clause-parts
returns-in-None-clause-parts c =
    no_more c.args.input.now c.loop-rest.place (sym (ap is_marked c.after-rest.ensures) ∙ sym c.is_marked.ensures ∙ c.if-is_marked.false)
    (sym (ap (position is_feed) c.after-rest.ensures) ∙ sym c.line_end.ensures ∙ c.in-None.is) c.loop-rest.invariant.1

pub loop-rest-preserved : goal.loop-rest-preserved
loop-rest-preserved c =
    one_more c.args.input.now c.loop-rest.place c.in-Some.end (sym (ap is_marked c.after-rest.ensures) ∙ sym c.is_marked.ensures ∙ c.if-is_marked.false)
    (sym (ap (position is_feed) c.after-rest.ensures) ∙ sym c.line_end.ensures ∙ c.in-Some.is) c.loop-rest.invariant.0 c.loop-rest.invariant.1
