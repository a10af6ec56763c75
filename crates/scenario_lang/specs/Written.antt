-- Trees of texts that the parser takes.
use Rattle.std.specs.Prelude.{◌≡◌, ◌≤◌, IsTrue, Ok, length}
use Rattle.std.specs.List.{list_any}
use Rattle.scenario_tree.specs.declared.tree.Scenario.{Scenario}
use Rattle.scenario_grammar.specs.Bare.{bare}
use Rattle.scenario_grammar.specs.Layout.{most_of_profile}
use Rattle.scenario_grammar.specs.Parsed.{reading}
use Rattle.scenario_grammar.specs.Printed.{printed}
use Rattle.scenario_grammar.specs.Spells.{is_main}
use Rattle.scenario_grammar.specs.Spelt.{HasSpelling}
use Rattle.scenario_print.specs.Texts.{HasText}

-- some function of the scenario is its main
abbrev pub DefinesMain : Scenario → Type 0
DefinesMain s = IsTrue (list_any is_main s.functions)

-- Some bytes are a text of the tree: so it is of a profile that there is, each of its lines has words, and there is a
-- main.
pub record IsWritten (s : Scenario) : Type 0 where
  pub spelt : HasSpelling s
  pub text : HasText s
  pub main : DefinesMain s

-- The printed form, where it is no longer than a text of the profile may be, is read as the same tree but for the
-- numbers of its lines.
abbrev pub IsReadAgain : Scenario → Type 0
IsReadAgain s = length (printed s) ≤ most_of_profile s.profile → (t : Scenario) × ((reading (printed s) ≡ Ok t) × (bare s ≡ bare t))
