use Rattle.std.proofs.Common.{sym, ap, ◌∙◌, pos, ◌≤ℤ◌, arith, rules}
use Rattle.std.proofs.lemmas.Int.{ints, to_z-of_z}
use lib.IntN.{nat_abs}
use mir.Val.{SFits}
use mir.Syntax.{w64}
use Rattle.world_rules.specs.Evaluate.{eval, collatz}
use Rattle.world_rules.specs.declared.limits.TheConstants.{MOST_STEPS}
use Rattle.world_rules.proofs.CollatzSteps.{eval_collatz}
use Rattle.world_rules.proofs.evaluate.eval.Goals as goal

pub returns-else-n-lt1 : goal.returns-else-n-lt1
returns-else-n-lt1 c =
    let positive : pos 1 ≤ℤ c.in-Collatz.n = omega (arith, ints) in let fits : SFits w64 c.in-Collatz.n = search rules in
    c.steps_to_one.ensures ∙ (ap (λ z. collatz MOST_STEPS 0 (nat_abs z)) (to_z-of_z w64 _ fits)
    ∙ (sym (eval_collatz c.in-Collatz.n positive) ∙ ap eval (sym c.in-Collatz.is)))
