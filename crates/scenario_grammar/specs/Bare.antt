-- A tree but for the numbers of its lines.
use Rattle.std.specs.Prelude.{map}
use Rattle.scenario_tree.specs.declared.tree.Action.{Action, roll-Action}
use Rattle.scenario_tree.specs.declared.tree.Action.TheOpen.{Except-F, Statement-F}
use Rattle.scenario_tree.specs.declared.tree.Declaration.{Declaration}
use Rattle.scenario_tree.specs.declared.tree.Except.{Except, roll-Except}
use Rattle.scenario_tree.specs.declared.tree.Function.{Function}
use Rattle.scenario_tree.specs.declared.tree.Scenario.{Scenario}
use Rattle.scenario_tree.specs.declared.tree.Statement.{Statement, fold-Statement}

-- with 0 in place of its number, and what is inside it as it comes
abbrev pub except_at_0 : Except-F Action Except Statement → Except
except_at_0 x = roll-Except (record { line = 0; class = x.class; name = x.name; body = x.body })

-- the same of a statement
abbrev pub statement_at_0 : Statement-F Action Except Statement → Statement
statement_at_0 x = record { line = 0; action = x.action }

-- a statement with 0 in place of each number in it
unfoldable pub bare_statement : Statement → Statement
bare_statement = fold-Statement Action Except Statement roll-Action except_at_0 statement_at_0

-- a declaration with 0 in place of its number
abbrev pub bare_declaration : Declaration → Declaration
bare_declaration d = record d { line = 0 }

-- a function with 0 in place of each number in it
abbrev pub bare_function : Function → Function
bare_function f = record f { line = 0; body = map bare_statement f.body }

-- a scenario with 0 in place of the number of each line
abbrev pub bare : Scenario → Scenario
bare s = record s { objects = map bare_declaration s.objects; functions = map bare_function s.functions }
