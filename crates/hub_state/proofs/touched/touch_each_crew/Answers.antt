use Rattle.std.proofs.Common.{◌≡◌, ◌∙◌, ap, subst, ℕ, length, Some, arith}
use Rattle.machine.specs.declared.state.Object.{Object}
use Rattle.machine_settling.specs.Steps.{has_member}
use Rattle.hub_state.specs.Touched.{HasTouched, with_touched}
use Rattle.hub_state.proofs.Touching.{touched_if}
use Rattle.hub_state.proofs.touched.touch_each_crew.Goals as goal

pub loop-i-preserved : goal.loop-i-preserved
loop-i-preserved c =
    touched_if (has_member c.args.g) c.args.objects.now c.loop-i.i c.index-objects-i.result c.args.touched.now c.loop-i.touched c.touch.new.self c.has_member.result c.loop-i-test.true
    (c.has_member.ensures ∙ ap (λ (y : Object). has_member c.args.g (Some y)) c.index-objects-i.is) (c.touch.ensures ∙ ap (λ o. with_touched o c.loop-i.touched) c.object_if.ensures) c.loop-i.invariant

pub returns : goal.returns
returns c =
    let all : c.loop-i.i ≡ length c.args.objects.now = omega arith in
    subst (λ (n : ℕ). HasTouched (has_member c.args.g) c.args.objects.now n c.args.touched.now c.loop-i.touched) all c.loop-i.invariant
