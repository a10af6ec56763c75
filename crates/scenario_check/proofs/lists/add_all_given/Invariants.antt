use Rattle.std.proofs.Common.{◌≡◌, ◌++◌, ℕ, List, drop}
use Rattle.std.specs.List.{flat_map}
use Rattle.scenario_rules.specs.declared.mention.Named.{Named}
use Rattle.scenario_rules.specs.Declarations.{given_by}
use Rattle.scenario_check.proofs.lists.add_all_given.Given as goal

abbrev named : ℕ → List ℕ → Named
named line x = record { line = line; name = x }

abbrev pub invariant-loop-mention : goal.invariant-loop-mention
invariant-loop-mention l = l.list ++ flat_map given_by (drop l.mention-index l.said) ≡ l.fn.list ++ flat_map given_by l.said
