-- The storm of many greenlets: its text, and its scenario.
use Rattle.std.specs.Prelude.{ℕ, List, ◌++◌, codes}
use Rattle.gv_values.specs.Texts.{decimal}
use Rattle.scenario_tree.specs.declared.tree.Scenario.{Scenario}
use Rattle.scenario_grammar.specs.Spells.{Spells}
use Rattle.scenario_rules.specs.Rules.{IsWellFormed}

-- the lines before the number of greenlets, and those after it
abbrev pub storm_head : List ℕ
storm_head = codes "sem s 0\ngroup g\ndef w i\nacquire s within 1000\nrelease s\nend\ndef main\nlet i 1\nwhile <= i "

abbrev pub storm_tail : List ℕ
storm_tail = codes "\ngspawn g w i\nlet i + i 1\nend\nsleep 0\nrelease s\ngjoin g\nprint counter s\nend\n"

-- The text of the storm of n greenlets: each waits for one unit and hands it on to the next, and main waits for all.
unfoldable pub storm_text : ℕ → List ℕ
storm_text n = storm_head ++ decimal n ++ storm_tail

-- the scenario of the storm of n greenlets: its text spells it, and it is well formed
abbrev pub IsStorm : ℕ → Scenario → Type 0
IsStorm n s = Spells s (storm_text n) × IsWellFormed s
