use Rattle.std.proofs.Common.{take}
use Rattle.body_values.specs.Numbers.{NumbersObjects}
use Rattle.body_values.proofs.numbers.number_objects.Given as goal

abbrev pub invariant-loop-i : goal.invariant-loop-i
invariant-loop-i l = NumbersObjects l.numbers (take l.i l.objects)
