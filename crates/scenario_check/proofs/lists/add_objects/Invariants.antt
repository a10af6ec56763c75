use Rattle.std.proofs.Common.{◌≡◌, ◌++◌, ℕ, List, drop, map}
use Rattle.scenario_rules.specs.declared.mention.Named.{Named}
use Rattle.scenario_rules.specs.Declarations.{named_declaration}
use Rattle.scenario_check.proofs.lists.add_objects.Given as goal

abbrev named : ℕ → List ℕ → Named
named line x = record { line = line; name = x }

abbrev pub invariant-loop-object : goal.invariant-loop-object
invariant-loop-object l = l.list ++ map named_declaration (drop l.object-index l.objects) ≡ l.fn.list ++ map named_declaration l.objects
