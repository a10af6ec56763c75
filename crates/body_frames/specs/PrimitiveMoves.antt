-- What a move of integers and truth values comes to: it is that of the definitions, whatever the scenario and the hub
-- are.
use Rattle.std.specs.Prelude.{ℕ, ◌≡◌, Bool, true, false, List, []}
use Rattle.scenario_tree.specs.declared.tree.Scenario.{Scenario}
use Rattle.machine.specs.declared.state.Leaving.{Leaving}
use Rattle.machine.specs.declared.state.Local.{Local}
use Rattle.machine.specs.declared.state.Todo.{Todo}
use Rattle.machine.specs.Bodies.{Stepped, after_move, around}
use Rattle.machine.specs.BodyMoves.{Did, action_move, body_move}
use Rattle.machine.specs.Expressions.{Around, Look}
use Rattle.machine.specs.Unwinding.{Unwound, unwind}
use Rattle.body_locals.specs.Locals.{locals_of}
use Rattle.body_names.specs.Naming.{IsNaming}
use Rattle.body_blocks.specs.Trees.{Coded}
use Rattle.body_entries.specs.declared.entry.Entry.{Entry}
use Rattle.body_frames.specs.declared.stack.Stack.{Stack}
use Rattle.body_blocks.specs.Few.{HasFewParts}
use Rattle.body_entries.specs.Entries.{Form, todo_of}
use Rattle.body_entries.specs.Few.{HasFewToDo}

-- the move goes on in the body, at what is then first to do
abbrev pub GoesOn : Coded → (Around → Did) → Stack → Stack → Type 0
GoesOn t move old new = IsNaming t.names → (moves : ℕ) (go : Unwound → Stepped) (s : Scenario) (look : Look) →
    after_move moves (locals_of t.names old.locals) go (move (around s look (locals_of t.names old.locals)))
    ≡ go (unwind (todo_of t new.todo) [] Leaving.Normally (locals_of t.names new.locals))

-- each call of what is still to do has few arguments, if it was so before
abbrev pub StaysFew : Coded → List Entry → List Entry → Type 0
StaysFew t old new = HasFewToDo (todo_of t old) → HasFewToDo (todo_of t new)

-- the move at the head was made, or nothing was done
abbrev pub HasMade : Bool → Coded → Stack → Stack → Type 0
HasMade true t old new = (new.left ≡ old.left) × GoesOn t (body_move (todo_of t old.todo)) old new × StaysFew t old.todo new.todo
HasMade false t old new = new ≡ old

-- so was that of a statement of this form, where this is to do after it
abbrev pub HasActed : Bool → Coded → Form → List Entry → Stack → Stack → Type 0
HasActed true t form after old new = (new.left ≡ old.left) × GoesOn t (λ a. action_move form a (todo_of t after)) old new × (HasFewParts form → StaysFew t after new.todo)
HasActed false t form after old new = new ≡ old

-- left at its end, the one is as the other
abbrev pub IsPassed : Coded → List Entry → List Entry → Type 0
IsPassed t old new =
    ((left : List ℕ) (locals : List Local) → unwind (todo_of t old) left Leaving.Normally locals ≡ unwind (todo_of t new) left Leaving.Normally locals) × StaysFew t old new

-- the body goes on right there
abbrev pub RunsAt : List Todo → Type 0
RunsAt todo = (left : List ℕ) (locals : List Local) → unwind todo left Leaving.Normally locals ≡ Unwound.Runs left locals todo
