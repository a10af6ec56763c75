use Rattle.std.proofs.Common.{◌≤◌, ◌∙◌, sym, ap, arith, ℕ, List, length, take, true}
use Rattle.http_messages.specs.Cuts.{empty_line_end}
use Rattle.http_messages.proofs.CutReads.{head_found, head_too_long, head_waits}
use Rattle.http_messages.proofs.head.head_end.Goals as goal
use Rattle.http_messages.specs.declared.limits.TheConstants.{MOST_HEAD}

pub returns-in-Some-empty_line_end-clause-sees : goal.returns-in-Some-empty_line_end-clause-sees
returns-in-Some-empty_line_end-clause-sees c = (
  let fits : c.in-Some-empty_line_end.end ≤ length c.line_end.new.self = c.in-Some-empty_line_end.ensures.within.1 in
      omega (arith, ap length c.line_end.ensures.same),
  head_found c.args.kept.now c.in-Some.field-0 c.in-Some-empty_line_end.end (sym c.line_end.ensures.end ∙ c.in-Some.is)
      (ap (λ (l : List ℕ). empty_line_end true (take MOST_HEAD l)) (sym c.line_end.ensures.same) ∙ sym c.empty_line_end.ensures.end ∙ c.in-Some-empty_line_end.is),
)

pub returns-in-Some-empty_line_end-clause-same : goal.returns-in-Some-empty_line_end-clause-same
returns-in-Some-empty_line_end-clause-same c = c.empty_line_end.ensures.same ∙ c.line_end.ensures.same

pub returns-in-None-clause-sees : goal.returns-in-None-clause-sees
returns-in-None-clause-sees c =
    head_too_long c.args.kept.now c.in-Some.field-0 (sym c.line_end.ensures.end ∙ c.in-Some.is)
    (ap (λ (l : List ℕ). empty_line_end true (take MOST_HEAD l)) (sym c.line_end.ensures.same) ∙ sym c.empty_line_end.ensures.end ∙ c.in-None.is)
    (omega (arith, ap length (c.empty_line_end.ensures.same ∙ c.line_end.ensures.same)))

pub returns-in-None-2-clause-sees : goal.returns-in-None-2-clause-sees
returns-in-None-2-clause-sees c =
    head_waits c.args.kept.now c.in-Some.field-0 (sym c.line_end.ensures.end ∙ c.in-Some.is)
    (ap (λ (l : List ℕ). empty_line_end true (take MOST_HEAD l)) (sym c.line_end.ensures.same) ∙ sym c.empty_line_end.ensures.end ∙ c.in-None.is)
    (omega (arith, ap length (c.empty_line_end.ensures.same ∙ c.line_end.ensures.same)))
