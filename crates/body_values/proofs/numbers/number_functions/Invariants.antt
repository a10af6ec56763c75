use Rattle.std.proofs.Common.{take}
use Rattle.body_values.specs.Numbers.{NumbersFunctions}
use Rattle.body_values.proofs.numbers.number_functions.Given as goal

abbrev pub invariant-loop-i : goal.invariant-loop-i
invariant-loop-i l = NumbersFunctions l.numbers (take l.i l.functions)
