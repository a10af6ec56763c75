use Rattle.body_values.specs.Numbers.{HaveNumbers}
use Rattle.body_values.proofs.code.Code.own_numbers.Given as goal

abbrev pub invariant-loop-number : goal.invariant-loop-number
invariant-loop-number l = HaveNumbers l.self l.own
