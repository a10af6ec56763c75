use Rattle.std.proofs.Common.{◌≡◌, ◌++◌, drop, take}
use Rattle.gv_values.specs.declared.value.Value.{Value}
use Rattle.body_locals.specs.Locals.{bind}
use Rattle.body_locals.proofs.locals.place_of.Given as goal

abbrev pub invariant-loop-i : goal.invariant-loop-i
invariant-loop-i l = (v : Value) → bind l.number v l.all ≡ take l.i l.all ++ bind l.number v (drop l.i l.all)
