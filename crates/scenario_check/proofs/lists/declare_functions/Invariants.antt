use Rattle.std.proofs.Common.{◌++◌, ℕ, List, take, map}
use Rattle.scenario_rules.specs.declared.declared.Declared.{Declared}
use Rattle.scenario_rules.specs.declared.mention.Named.{Named}
use Rattle.scenario_rules.specs.Declarations.{function_entry}
use Rattle.name_table.specs.Tables.{Holds}
use Rattle.scenario_check.proofs.lists.declare_functions.Given as goal

abbrev named : ℕ → List ℕ → Named
named line x = record { line = line; name = x }

abbrev pub invariant-loop-function : goal.invariant-loop-function
invariant-loop-function l = (ds : List (List ℕ × Declared)) → Holds l.fn.names ds → Holds l.names (ds ++ map function_entry (take l.function-index l.functions))
