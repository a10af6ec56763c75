use Rattle.std.proofs.Common.{◌+◌, ◌<◌, length, sym, subst, arith}
use Rattle.std.specs.Prelude.{Err, Ok}
use Rattle.trace_laws.specs.Answers.{IsJudgedLawful}
use Rattle.trace_laws.specs.Counting.{HasCounted}
use Rattle.trace_laws.proofs.LawReads.{counted_few, counted_more, judged_fault, judged_whole, next_smaller, one_left, same_lawful}
use Rattle.trace_laws.proofs.lawful.check_laws.Goals as goal

pub overflow_add-count : goal.overflow_add-count
overflow_add-count c =
    let few = counted_few c.args.trace.now c.loop-rest.rest.now c.loop-rest.count c.loop-rest.laws c.loop-rest.invariant.0 in
    let some = next_smaller c.loop-rest.rest.now c.loop-rest.invariant.0.lines c.count_first.new.laws c.in-Ok.next (c.in-Ok.ensures c.loop-rest.invariant.0.lines c.loop-rest.invariant.0.stands) in
    omega (arith, few, some, c.loop-rest.invariant.1)

pub loop-rest-smaller : goal.loop-rest-smaller
loop-rest-smaller c =
    subst (λ rest. length rest < length c.loop-rest.rest.now) (sym c.after-rest.ensures)
    (next_smaller c.loop-rest.rest.now c.loop-rest.invariant.0.lines c.count_first.new.laws c.in-Ok.next (c.in-Ok.ensures c.loop-rest.invariant.0.lines c.loop-rest.invariant.0.stands))

pub loop-rest-preserved : goal.loop-rest-preserved
loop-rest-preserved c = (
  subst (λ rest. HasCounted c.args.trace.now rest (c.loop-rest.count + 1) c.count_first.new.laws) (sym c.after-rest.ensures)
      (counted_more c.args.trace.now c.loop-rest.rest.now c.loop-rest.count c.loop-rest.laws c.count_first.new.laws c.in-Ok.next c.loop-rest.invariant.0
      (c.in-Ok.ensures c.loop-rest.invariant.0.lines c.loop-rest.invariant.0.stands)),
  c.loop-rest.invariant.1,
)

pub overflow_add-count-in-Err : goal.overflow_add-count-in-Err
overflow_add-count-in-Err c =
    let few = counted_few c.args.trace.now c.loop-rest.rest.now c.loop-rest.count c.loop-rest.laws c.loop-rest.invariant.0 in
    omega (arith, few, one_left c.loop-rest.rest.now c.loop-rest-test.ensures, c.loop-rest.invariant.1)

pub returns-in-Err-clause-judged : goal.returns-in-Err-clause-judged
returns-in-Err-clause-judged c =
    subst (λ lawless_trace. IsJudgedLawful c.args.trace.now (Err lawless_trace)) (sym c.lawless_trace.ensures)
    (judged_fault c.args.trace.now c.loop-rest.rest.now c.loop-rest.count c.loop-rest.laws c.count_first.new.laws c.in-Err.fault c.loop-rest.invariant.0 c.loop-rest-test.ensures c.in-Err.ensures)

pub returns-in-Err-clause-only : goal.returns-in-Err-clause-only
returns-in-Err-clause-only c = λ right h. same_lawful c.args.trace.now right (Err c.lawless_trace.result) h (returns-in-Err-clause-judged c)

pub returns-clause-judged : goal.returns-clause-judged
returns-clause-judged c = judged_whole c.args.trace.now c.loop-rest.rest.now c.loop-rest.count c.loop-rest.laws c.loop-rest.invariant.0 c.loop-rest-test.ensures

pub returns-clause-only : goal.returns-clause-only
returns-clause-only c = λ right h. same_lawful c.args.trace.now right (Ok c.loop-rest.count) h (returns-clause-judged c)
