-- That what a body has still to do has few arguments in each call.
use Rattle.std.specs.Prelude.{List, [], ◌∷◌}
use Rattle.machine.specs.declared.state.Todo.{Todo}
use Rattle.body_blocks.specs.Few.{HasFew, HasFewExcepts}

-- each call of an entry of what is still to do is few
abbrev pub HasFewEntry : Todo → Type 0
HasFewEntry (Todo.Statements ss) = HasFew ss
HasFewEntry (Todo.Again e body) = HasFew body
HasFewEntry (Todo.Guard excepts finally) = HasFewExcepts excepts × HasFew finally
HasFewEntry (Todo.Afterwards how) = Unit {0}
HasFewEntry (Todo.Within n silent) = Unit {0}

-- so is each call of all that is still to do
abbrev pub HasFewToDo : List Todo → Type 0
HasFewToDo [] = Unit {0}
HasFewToDo (entry ∷ todo) = HasFewEntry entry × HasFewToDo todo
