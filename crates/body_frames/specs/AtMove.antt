-- Where a move is made.
use Rattle.std.specs.Prelude.{List, ◌∷◌, ⊤}
use Rattle.machine.specs.declared.state.Todo.{Todo}

-- a statement, or the test of a while, stands at the head of what is still to do
abbrev pub IsAtMove : List Todo → Type 0
IsAtMove (Todo.Statements (s ∷ ss) ∷ todo) = ⊤
IsAtMove (Todo.Again e body ∷ todo) = ⊤
IsAtMove todo = ⊥
