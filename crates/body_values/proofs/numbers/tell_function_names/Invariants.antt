use Rattle.std.proofs.Common.{map, take}
use Rattle.body_values.specs.Numbers.{AreNames}
use Rattle.body_values.proofs.numbers.tell_function_names.Given as goal

abbrev pub invariant-loop-i : goal.invariant-loop-i
invariant-loop-i l = AreNames (map (λ f. f.name) (take l.i l.functions))
