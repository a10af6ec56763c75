-- That a tree has a text.
use Rattle.std.specs.Prelude.{ℕ, List}
use Rattle.scenario_tree.specs.declared.tree.Scenario.{Scenario}
use Rattle.scenario_grammar.specs.Spells.{Spells}

-- Some bytes are a text of the tree. Then its printed form is one too, but for the numbers of the lines, where it is no
-- longer than a text may be.
abbrev pub HasSpelling : Scenario → Type 0
HasSpelling s = (bytes : List ℕ) × Spells s bytes

-- the same tree, of profile 3
abbrev pub in_profile_3 : Scenario → Scenario
in_profile_3 s = record s { profile = 3 }
