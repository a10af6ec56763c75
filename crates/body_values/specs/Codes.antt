-- What some code stands for, where these are its names and its blocks.
use Rattle.std.specs.Prelude.{ℕ, List, map}
use Rattle.scenario_tree.specs.declared.tree.Declaration.{Declaration}
use Rattle.scenario_tree.specs.declared.tree.Function.{Function}
use Rattle.scenario_tree.specs.declared.tree.Scenario.{Scenario}
use Rattle.body_names.specs.Naming.{name_of}
use Rattle.body_blocks.specs.Trees.{Coded, block_at}
use Rattle.body_values.specs.declared.functions.FlatFunction.{FlatFunction}

-- a function with its body
abbrev pub function_of : Coded → FlatFunction → Function
function_of t f = record { line = f.line; is_raw = f.is_raw; name = f.name; parameters = map (name_of t.names) f.parameters; body = block_at f.body t }

-- the scenario
abbrev pub scenario_of : ℕ → List Declaration → List FlatFunction → Coded → Scenario
scenario_of profile objects functions t = record { profile = profile; objects = objects; functions = map (function_of t) functions }
