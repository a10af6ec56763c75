-- What the entries of a body's pile stand for, where these are the names and the blocks of its code.
use Rattle.std.specs.Prelude.{ℕ, Bool, true, false, List, [], ◌∷◌, map, drop, Option, unwrap_or, option_map}
use Rattle.scenario_tree.specs.declared.tree.Action.{Action}
use Rattle.scenario_tree.specs.declared.tree.Action.TheOpen.{Action-F}
use Rattle.scenario_tree.specs.declared.tree.Except.{Except}
use Rattle.scenario_tree.specs.declared.tree.Statement.{Statement}
use Rattle.machine.specs.declared.state.Frame.{Frame}
use Rattle.machine.specs.declared.state.Todo.{Todo}
use Rattle.body_names.specs.declared.expression.LocalSlot.{LocalSlot}
use Rattle.body_names.specs.Expressions.{expression_of}
use Rattle.body_names.specs.Statements.{command_of, giving_of}
use Rattle.body_locals.specs.declared.locals.Bound.{Bound}
use Rattle.body_locals.specs.Locals.{locals_of}
use Rattle.body_blocks.specs.Trees.{Coded, block_at, except_of, name_if}
use Rattle.body_blocks.specs.declared.statement.FlatAction.{FlatAction}
use Rattle.body_entries.specs.declared.entry.Entry.{Entry}

-- what stands on a line, opened by one level
abbrev pub Form : Type 0
Form = Action-F Action Except Statement

-- a block that may be missing
abbrev pub optional_block : Coded → Option ℕ → Option (List Statement)
optional_block t n = option_map (λ i. block_at i t) n

-- a flat statement, opened by one level
abbrev pub form_of : Coded → FlatAction → Form
form_of t (FlatAction.Command c) = Action-F.Command (command_of t.names c)
form_of t (FlatAction.Giving x g) = Action-F.Giving (name_if t x) (giving_of t.names g)
form_of t (FlatAction.If e y n) = Action-F.If (expression_of t.names e) (block_at y t) (optional_block t n)
form_of t (FlatAction.While e b) = Action-F.While (expression_of t.names e.value) (block_at b t)
form_of t (FlatAction.Try b h) = Action-F.Try (block_at b t) (map (except_of t) h.value.excepts) (optional_block t h.value.finally)
form_of t (FlatAction.Timeout ms silent b) = Action-F.Timeout ms silent (block_at b t)

-- there is a statement
abbrev pub begins : List Statement → Bool
begins [] = false
begins (s ∷ ss) = true

-- a block from a place on
abbrev pub rest : Coded → ℕ → ℕ → List Statement
rest t b p = drop p (block_at b t)

-- one entry
abbrev pub entry_of : Coded → Entry → Todo
entry_of t (Entry.Rest b p) = Todo.Statements (rest t b p)
entry_of t (Entry.Again e b) = Todo.Again (expression_of t.names e.value) (block_at b t)
entry_of t (Entry.Guard h) = Todo.Guard (map (except_of t) h.value.excepts) (unwrap_or (optional_block t h.value.finally) [])
entry_of t (Entry.Final f) = Todo.Guard [] (unwrap_or (optional_block t f) [])
entry_of t (Entry.Afterwards how) = Todo.Afterwards how
entry_of t (Entry.Within n silent) = Todo.Within n silent

-- what is still to do
abbrev pub todo_of : Coded → List Entry → List Todo
todo_of t entries = map (entry_of t) entries

-- a body that stands so
abbrev pub frame_at : Coded → List Bound → List Entry → Option LocalSlot → Frame
frame_at t locals entries gives = record { locals = locals_of t.names locals; todo = todo_of t entries; gives = name_if t gives }
