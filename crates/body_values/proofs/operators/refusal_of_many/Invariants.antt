use Rattle.std.proofs.Common.{◌≡◌, drop}
use Rattle.std.specs.Option.{is_some}
use Rattle.machine.specs.Expressions.{scalars}
use Rattle.body_values.proofs.operators.refusal_of_many.Given as goal

abbrev pub invariant-loop-value : goal.invariant-loop-value
invariant-loop-value l = is_some (scalars l.values) ≡ is_some (scalars (drop l.value-index l.values))
