use Rattle.std.proofs.Common.{◌≡◌, drop}
use Rattle.std.specs.List.{flat_map}
use Rattle.scenario_tree.specs.declared.tree.Scenario.{Scenario}
use Rattle.scenario_rules.specs.Declarations.{declarations}
use Rattle.scenario_rules.specs.Rules.{first_after, function_refusals}
use Rattle.name_table.specs.Tables.{Holds}
use Rattle.scenario_check.proofs.judge.judge_functions.Given as goal

abbrev pub invariant-loop-function : goal.invariant-loop-function
invariant-loop-function l =
    (s : Scenario) → Holds l.names (declarations s) → first_after l.least (flat_map (function_refusals s) (drop l.function-index l.functions)) ≡ first_after l.fn.first (flat_map (function_refusals s) l.functions)
