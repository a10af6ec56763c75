-- What is kept of a list of names.
use Rattle.std.specs.Prelude.{◌≡◌, ℕ, List, map}
use Rattle.gv_values.specs.declared.name.Name.{Name}
use Rattle.scenario_rules.specs.declared.mention.Named.{Named}
use Rattle.scenario_rules.specs.Declarations.{different, repeated}
use Rattle.scenario_check.specs.declared.different.Sorted.{Sorted}
use Rattle.name_table.specs.Tables.{Holds}

abbrev pub pair : Named → Name × ℕ
pair n = (n.name, n.line)

-- the names with their first lines, and which of them were new where they stood
pub record IsSortedOf (sorted : Sorted) (list : List Named) : Type 0 where
  pub names : Holds sorted.names (map pair list)
  pub different : sorted.different ≡ different list
  pub repeated : sorted.repeated ≡ repeated list
