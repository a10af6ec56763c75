-- What a move comes to, as the code chooses it.
use Rattle.std.specs.Prelude.{ℕ, ◌≡◌, ⊤, List, [], ◌∷◌, Option, if◌then◌else◌, option_map, unwrap_or}
use Rattle.scenario_tree.specs.declared.tree.Expression.{Expression}
use Rattle.scenario_tree.specs.declared.tree.Giving.{Giving}
use Rattle.scenario_tree.specs.declared.tree.Statement.{Statement}
use Rattle.machine.specs.declared.state.Leaving.{Leaving}
use Rattle.machine.specs.declared.state.Todo.{Todo}
use Rattle.machine.specs.Expressions.{bind, meaning, Around}
use Rattle.machine.specs.BodyMoves.{Did, tested, asked, giving_request}
use Rattle.machine.specs.Unwinding.{Unwound, unwind}
use Rattle.machine.specs.Bodies.{Body, Step, Stepped, after_move}
use Rattle.body_names.specs.declared.command.FlatCommand.{FlatCommand as Word}
use Rattle.body_names.specs.declared.expression.LocalSlot.{LocalSlot}
use Rattle.body_names.specs.declared.giving.FlatGiving.{FlatGiving as Grant}
use Rattle.body_locals.specs.declared.locals.Bound.{Bound}
use Rattle.body_locals.specs.Locals.{locals_of}
use Rattle.body_names.specs.Naming.{name_of}
use Rattle.body_moves.specs.declared.chosen.Chosen.{Chosen}
use Rattle.machine.specs.State.{Name}

-- the name of a local that may be missing
abbrev pub name_if : List Name → Option LocalSlot → Option Name
name_if names x = option_map (λ slot. name_of names slot.number) x

-- with this to do after the statement, and these moves left, where these are the names
abbrev pub came_of : List Name → ℕ → List Bound → (Unwound → Stepped) → List Todo → Chosen → Stepped
came_of names moves locals go todo (Chosen.Goes how) = go (unwind todo [] how (locals_of names locals))
came_of names moves locals go todo (Chosen.Binds x v) = go (unwind todo [] Leaving.Normally (bind (name_of names x.number) v (locals_of names locals)))
came_of names moves locals go todo (Chosen.Asks request x) =
    record { step = Step.Asks request; body = Body.Waits (record { locals = locals_of names locals; todo = todo; gives = name_if names x }); moves = moves }

-- the choice does what the move does, whatever is to do after it
abbrev pub DoesAs : List Name → Chosen → List Bound → (List Todo → Did) → Type 0
DoesAs names chosen locals move = (moves : ℕ) (go : Unwound → Stepped) (todo : List Todo) →
    after_move moves (locals_of names locals) go (move todo) ≡ came_of names moves locals go todo chosen

-- the rows of the definitions for `if` and for a statement that gives a value
abbrev pub branch_move : Expression → List Statement → Option (List Statement) → Around → List Todo → Did
branch_move e yes' no' a todo = tested (meaning e a) a.locals (λ b. Todo.Statements (if b then yes' else unwrap_or no' []) ∷ todo)

abbrev pub giving_move : Option Name → Giving → Around → List Todo → Did
giving_move x giving a todo = asked (giving_request giving a) x a.locals todo

-- ---- statements by what they do

-- one that does something to greenlets
abbrev pub ChangesGreenlet : Word → Type 0
ChangesGreenlet (Word.Start e) = ⊤
ChangesGreenlet (Word.Join e t) = ⊤
ChangesGreenlet (Word.Kill e f w) = ⊤
ChangesGreenlet (Word.KillAll e f w) = ⊤
ChangesGreenlet (Word.Unlink e) = ⊤
ChangesGreenlet (Word.SetParent e d) = ⊤
ChangesGreenlet c = ⊥

-- one that does something to an object, and gives it no value
abbrev pub ChangesObject : Word → Type 0
ChangesObject (Word.Set n) = ⊤
ChangesObject (Word.Clear n) = ⊤
ChangesObject (Word.Release n) = ⊤
ChangesObject (Word.QueueDone n) = ⊤
ChangesObject (Word.QueueShut n immediate) = ⊤
ChangesObject (Word.GroupJoin n t) = ⊤
ChangesObject (Word.GroupKill n f now) = ⊤
ChangesObject c = ⊥

-- one that makes greenlets or a job
abbrev pub Makes : Grant → Type 0
Makes (Grant.Spawn f es) = ⊤
Makes (Grant.SpawnLater ms f es) = ⊤
Makes (Grant.New f es) = ⊤
Makes (Grant.GroupSpawn n f es) = ⊤
Makes (Grant.Map n f e) = ⊤
Makes (Grant.NativeSpawn n job e takes) = ⊤
Makes (Grant.Raw f e) = ⊤
Makes g = ⊥

-- one that asks an object for what it gives
abbrev pub AsksObject : Grant → Type 0
AsksObject (Grant.WaitEvent n t) = ⊤
AsksObject (Grant.ResultGet n w) = ⊤
AsksObject (Grant.ResultWait n t) = ⊤
AsksObject (Grant.Acquire n w) = ⊤
AsksObject (Grant.QueueGet n w) = ⊤
AsksObject (Grant.QueuePeek n w) = ⊤
AsksObject (Grant.QueueJoin n t) = ⊤
AsksObject (Grant.ChannelGet n) = ⊤
AsksObject g = ⊥
