use Rattle.std.proofs.Common.{arith}
use Rattle.scenario_lines.proofs.Numbers.{magnitude_step}
use Rattle.scenario_lines.proofs.token.magnitude.Goals as goal

pub loop-b-preserved : goal.loop-b-preserved
loop-b-preserved c = λ all.
    rw (c.saturating_add-value.ensures, c.saturating_mul.ensures, c.from-digit.ensures, c.saturating_sub.ensures)
    (magnitude_step c.args.digits.now c.loop-b.b-index c.loop-b.value (omega arith) all (c.loop-b.invariant all))
