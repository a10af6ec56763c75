use Rattle.std.proofs.Common.{◌≡◌, ◌++◌, ℕ, List, drop, map}
use Rattle.scenario_rules.specs.declared.mention.Named.{Named}
use Rattle.scenario_rules.specs.Declarations.{named_function}
use Rattle.scenario_check.proofs.lists.add_functions.Given as goal

abbrev named : ℕ → List ℕ → Named
named line x = record { line = line; name = x }

abbrev pub invariant-loop-function : goal.invariant-loop-function
invariant-loop-function l = l.list ++ map named_function (drop l.function-index l.functions) ≡ l.fn.list ++ map named_function l.functions
