use Rattle.std.proofs.Common.{◌≡◌, ap, sym, ◌∙◌, ℕ, ◌+◌, ◌-◌, ◌<◌, ◌≤◌, Bool, false, ◌||◌, List, length, get_or, take, arith}
use Rattle.std.specs.List.{list_any}
use Rattle.std.proofs.Math.Bool.{or-false}
use Rattle.std.proofs.lemmas.List.Folds.{list_any_at, list_any_more}
use Rattle.machine.specs.declared.state.JobState.{JobState}
use Rattle.machine.specs.Questions.{is_outstanding}
use Rattle.hub_objects.proofs.jobs.any_outstanding.Goals as goal

-- a job that has arrived may be passed by
passed_by : (js : List JobState) (left : ℕ) (d : JobState) → 0 < left → left ≤ length js → is_outstanding (get_or js (left - 1) d) ≡ false →
    list_any is_outstanding (take left js) ≡ list_any is_outstanding (take (left - 1) js)
passed_by js left d some within e =
    let one : left ≡ left - 1 + 1 = omega (arith, some) in
    ap (λ n. list_any is_outstanding (take n js)) one ∙ list_any_more is_outstanding js (left - 1) d (omega (arith, some, within))
    ∙ ap (λ (b : Bool). list_any is_outstanding (take (left - 1) js) || b) e ∙ or-false (list_any is_outstanding (take (left - 1) js))

-- where none is left, none is outstanding
none_left : (js : List JobState) (left : ℕ) → left ≤ 0 → list_any is_outstanding (take left js) ≡ false
none_left js left h = let none : left ≡ 0 = omega (arith, h) in ap (λ n. list_any is_outstanding (take n js)) none

pub returns-then-is_outstanding : goal.returns-then-is_outstanding
returns-then-is_outstanding c =
    let within = c.loop-left.invariant.within in
    let some = c.loop-left-test.true in
    sym
    (list_any_at is_outstanding c.args.jobs.now (c.loop-left.left - 1) c.index-jobs-left.result (omega (arith, within, some)) (ap is_outstanding (sym c.index-jobs-left.is) ∙ sym c.is_outstanding.ensures ∙ c.if-is_outstanding.true))

pub loop-left-preserved : goal.loop-left-preserved
loop-left-preserved c =
    let within = c.loop-left.invariant.within in record {
      within = omega (arith, within);
      rest = c.loop-left.invariant.rest
          ∙ passed_by c.args.jobs.now c.loop-left.left c.index-jobs-left.result c.loop-left-test.true within (ap is_outstanding (sym c.index-jobs-left.is) ∙ sym c.is_outstanding.ensures ∙ c.if-is_outstanding.false);
    }

pub returns : goal.returns
returns c = sym (c.loop-left.invariant.rest ∙ none_left c.args.jobs.now c.loop-left.left c.loop-left-test.false)
