-- The functions of a scenario by their numbers.
use Rattle.std.specs.Prelude.{ℕ, ◌<◌, length, slice_get, unwrap_or}
use Rattle.scenario_tree.specs.declared.tree.Function.{Function}
use Rattle.scenario_tree.specs.declared.tree.Scenario.{Scenario}
use Rattle.machine.specs.Greenlets.{no_function}

-- the function of this number is declared
abbrev pub IsFunction : Scenario → ℕ → Type 0
IsFunction s n = n < length s.functions

-- the function of this number
abbrev pub function_at : ℕ → Scenario → Function
function_at n s = unwrap_or (slice_get s.functions n) no_function
