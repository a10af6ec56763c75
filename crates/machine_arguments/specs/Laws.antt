-- A well-formed scenario has few arguments in each of its calls. This project's own.
use Rattle.std.specs.Prelude.{◌≡◌, ℕ, Some, slice_get}
use Rattle.scenario_tree.specs.declared.tree.Function.{Function}
use Rattle.scenario_tree.specs.declared.tree.Scenario.{Scenario}
use Rattle.scenario_rules.specs.Rules.{IsWellFormed}
use Rattle.body_blocks.specs.Few.{HasFew, HasFewCalls}

-- each call of a well-formed scenario has few arguments
abbrev pub CallsFew : Type 0
CallsFew = (c : Scenario) → IsWellFormed c → HasFewCalls c

-- so has each call of each function that is found in such a scenario
abbrev pub FunctionsHaveFew : Type 0
FunctionsHaveFew = (c : Scenario) (n : ℕ) (f : Function) → slice_get c.functions n ≡ Some f → HasFewCalls c → HasFew f.body
