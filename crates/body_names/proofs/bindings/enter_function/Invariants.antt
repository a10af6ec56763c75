use Rattle.body_names.specs.Naming.{Grows, IsKept}
use Rattle.body_names.proofs.bindings.enter_function.Given as goal

abbrev pub invariant-loop-parameter : goal.invariant-loop-parameter
invariant-loop-parameter l = record {
  kept : IsKept l.naming.numbers l.naming.names;
  grows : Grows l.initial.naming.names l.naming.names;
}
