use Rattle.std.proofs.Common.{◌≡◌, ◌++◌, ℕ, List, drop, map}
use Rattle.scenario_rules.specs.declared.mention.Named.{Named}
use Rattle.scenario_check.proofs.lists.add_names.Given as goal

abbrev named : ℕ → List ℕ → Named
named line x = record { line = line; name = x }

abbrev pub invariant-loop-name : goal.invariant-loop-name
invariant-loop-name l = l.list ++ map (named l.line) (drop l.name-index l.names) ≡ l.fn.list ++ map (named l.line) l.names
