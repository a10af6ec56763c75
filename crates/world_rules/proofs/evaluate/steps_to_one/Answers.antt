use Rattle.std.proofs.Common.{◌≡◌, ◌+◌, ◌-◌, sym, ap, ◌∙◌, pos, arith}
use Rattle.std.proofs.lemmas.Int.{ints}
use Rattle.gv_values.specs.declared.job.JobOutcome.{JobOutcome}
use mir.Val.{to_z}
use mir.Syntax.{w64}
use Rattle.world_rules.specs.Evaluate.{collatz}
use Rattle.world_rules.specs.declared.limits.TheConstants.{MOST_STEPS}
use Rattle.world_rules.proofs.CollatzSteps.{collatz_at_one, collatz_ends_early, collatz_overflows, collatz_goes_on}
use Rattle.world_rules.proofs.evaluate.steps_to_one.Goals as goal

pub returns-then-m-eq1 : goal.returns-then-m-eq1
returns-then-m-eq1 c = let i = c.loop-made.invariant in let more = c.loop-made-test.true in let made : to_z w64 c.loop-made.made ≡ pos c.loop-made.made = omega (arith, ints) in
    ap (λ z. JobOutcome.Int z) made ∙ (sym (collatz_at_one _ _ _ c.if-m-eq1.true) ∙ i.1)

pub returns-in-None : goal.returns-in-None
returns-in-None c = let i = c.loop-made.invariant in let more = c.loop-made-test.true in
    sym (collatz_overflows _ (MOST_STEPS - (c.loop-made.made + 1)) c.loop-made.made c.loop-made.m (omega arith) c.if-m-eq1.false c.in-None.ensures) ∙ i.1

pub loop-made-preserved : goal.loop-made-preserved
loop-made-preserved c = let i = c.loop-made.invariant in let more = c.loop-made-test.true in let next = c.in-Some.ensures in
    (next.1, sym (collatz_goes_on _ (MOST_STEPS - (c.loop-made.made + 1)) c.loop-made.made c.loop-made.m _ (omega arith) c.if-m-eq1.false next.0 next.1) ∙ i.1)

pub returns-then-m-eq1-2 : goal.returns-then-m-eq1-2
returns-then-m-eq1-2 c = let i = c.loop-made.invariant in let none = c.loop-made-test.false in let all = c.loop-made.auto.made-end in let made : c.loop-made.made ≡ MOST_STEPS = omega arith in
    ap (λ n. JobOutcome.Int (pos n)) (sym made) ∙ (sym (collatz_at_one _ _ _ c.if-m-eq1-2.true) ∙ i.1)

pub returns-else-m-eq1-2 : goal.returns-else-m-eq1-2
returns-else-m-eq1-2 c = let i = c.loop-made.invariant in let none = c.loop-made-test.false in let left : MOST_STEPS - c.loop-made.made ≡ 0 = omega arith in
    sym (collatz_ends_early c.loop-made.made c.loop-made.m c.if-m-eq1-2.false) ∙ (ap (λ n. collatz n c.loop-made.made c.loop-made.m) (sym left) ∙ i.1)
