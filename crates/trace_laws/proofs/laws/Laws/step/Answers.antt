use Rattle.std.proofs.Common.{◌∙◌, ap, subst, sym}
use Rattle.std.specs.Prelude.{Err}
use Rattle.std.proofs.lemmas.Result.{err_from_is_err_and}
use Rattle.trace_laws.specs.Kept.{IsJudgedNext}
use Rattle.trace_laws.proofs.Keeping.{broken_judged, counted_judged, kept_more, kept_same, next_break, refused_judged}
use Rattle.trace_laws.proofs.laws.Laws.step.Goals as goal

pub returns-in-Some-broken_by-clause-judged : goal.returns-in-Some-broken_by-clause-judged
returns-in-Some-broken_by-clause-judged c = λ lines s.
    broken_judged _ lines c.args.line.now c.in-Some-broken_by.number (next_break c.args.self.now lines c.args.line.now s ∙ sym c.broken_by.ensures ∙ c.in-Some-broken_by.is)

pub returns-in_err-count-clause-judged : goal.returns-in_err-count-clause-judged
returns-in_err-count-clause-judged c = λ lines s.
    let lawful = next_break c.args.self.now lines c.args.line.now s ∙ sym c.broken_by.ensures ∙ c.in_default-broken_by.is in
    let judged = refused_judged c.count.new.self lines c.args.line.now lawful (kept_same c.args.self.now c.count.new.self lines s c.in_err-count.ensures.err) in
    let p = err_from_is_err_and c.from_residual.result c.from_residual.ensures.1 in
    subst (IsJudgedNext c.count.new.self lines c.args.line.now) (sym (p.1 ∙ ap Err p.2)) judged

pub returns-clause-judged : goal.returns-clause-judged
returns-clause-judged c = λ lines s.
    let lawful = next_break c.args.self.now lines c.args.line.now s ∙ sym c.broken_by.ensures ∙ c.in_default-broken_by.is in
    counted_judged c.count.new.self lines c.args.line.now lawful (kept_more c.args.self.now c.count.new.self lines c.args.line.now s lawful c.in_ok-count.ensures.ok)
