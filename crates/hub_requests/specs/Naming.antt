-- Objects whose names stand in lines.
use Rattle.std.specs.Prelude.{ℕ, ◌<◌, ⊤, length}
use Rattle.scenario_tree.specs.declared.tree.Scenario.{Scenario}
use Rattle.machine.specs.declared.items.Waiting.{Waiting}

-- the object of this number is declared
abbrev pub IsObject : Scenario → ℕ → Type 0
IsObject c o = o < length c.objects

-- the group or pool is declared in which a map waits for a place: it may park there once more
abbrev pub IsNamed : Scenario → Waiting → Type 0
IsNamed c (Waiting.MapPlace o f xs made) = IsObject c o
IsNamed c w = ⊤
