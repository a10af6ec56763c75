use Rattle.std.proofs.Common.{◌≡◌, drop, length}
use Rattle.machine.specs.Expressions.{scalars}
use Rattle.body_values.proofs.Operands.{preceded}
use Rattle.body_values.proofs.operators.listed.Given as goal

abbrev pub invariant-loop-value : goal.invariant-loop-value
invariant-loop-value l = record {
  same : scalars l.values ≡ preceded l.list (scalars (drop l.value-index l.values));
  count : length l.list ≡ l.value-index;
}
