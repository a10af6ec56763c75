use Rattle.std.proofs.Common.{refl, sym, ◌∙◌}
use Rattle.std.proofs.lemmas.Bool.{not-true}
use Rattle.hub_state.specs.Over.{whole}
use Rattle.hub_state.proofs.SettledLines.{line_by_counts}
use Rattle.hub_state.proofs.looks.is_settled.Goals as goal
use Rattle.hub_state.proofs.looks.is_settled.Goals.{else-numbered-ne0-via-then-numbered-ne0+else-not-holds_in_line, else-numbered-ne0-via-else-numbered-ne0}

pub returns-then-numbered-waiting : goal.returns-then-numbered-waiting
returns-then-numbered-waiting c = λ all.
    line_by_counts c.args.kind c.args.o c.tally_in-waiting.result.numbered c.tally_in-waiting.result.waiting (whole c.args.base.now c.args.held.now) c.args.held.now.entries refl c.requires c.tally_in-waiting.ensures.numbered c.tally_in-waiting.ensures.waiting
    (λ some. elim c.else-numbered-ne0.branch [
      | else-numbered-ne0-via-then-numbered-ne0+else-not-holds_in_line w ↦ sym w.holds_in_line.ensures ∙ w.if-not-holds_in_line.false
      | else-numbered-ne0-via-else-numbered-ne0 w ↦ absurd (some w.if-numbered-ne0.false)
    ])
    (λ more. absurd (more c.if-numbered-waiting.true))

pub returns-else-numbered-waiting : goal.returns-else-numbered-waiting
returns-else-numbered-waiting c = λ fails.
    line_by_counts c.args.kind c.args.o c.tally_in-waiting.result.numbered c.tally_in-waiting.result.waiting (whole c.args.base.now c.args.held.now) c.args.held.now.entries refl c.requires c.tally_in-waiting.ensures.numbered c.tally_in-waiting.ensures.waiting
    (λ some. elim c.else-numbered-ne0.branch [
      | else-numbered-ne0-via-then-numbered-ne0+else-not-holds_in_line w ↦ sym w.holds_in_line.ensures ∙ w.if-not-holds_in_line.false
      | else-numbered-ne0-via-else-numbered-ne0 w ↦ absurd (some w.if-numbered-ne0.false)
    ])
    (λ more. sym c.holds_in_line-else-numbered-waiting.ensures ∙ not-true c.holds_in_line-else-numbered-waiting.result fails)
