-- One move of a body: what a statement does within the body, or what it asks of the hub. This project's own.
use Rattle.std.specs.Prelude.{ℕ, Bool, true, false, List, [], ◌∷◌, map, Option, Some, None, Result, Ok, Err, if◌then◌else◌, unwrap_or}
use Rattle.scenario_tree.specs.declared.tree.Statement.{Statement, out-Statement}
use Rattle.scenario_tree.specs.declared.tree.Action.{Action, out-Action}
use Rattle.scenario_tree.specs.declared.tree.Action.TheOpen.{Action-F}
use Rattle.scenario_tree.specs.declared.tree.Except.{Except}
use Rattle.scenario_tree.specs.declared.tree.Command.{Command}
use Rattle.scenario_tree.specs.declared.tree.Giving.{Giving}
use Rattle.scenario_tree.specs.declared.tree.Expression.{Expression}
use Rattle.scenario_tree.specs.declared.tree.Wait.{Wait}
use Rattle.scenario_tree.specs.declared.tree.LinkEnd.{LinkEnd}
use Rattle.gv_values.specs.declared.fault.FaultKind.{FaultKind}
use Rattle.gv_values.specs.declared.value.Value.{Value}
use Rattle.gv_values.specs.declared.value.Outcome.{Outcome}
use Rattle.gv_values.specs.declared.link.LinkKind.{LinkKind}
use Rattle.machine.specs.Expressions.{meaning, meanings, Around, bind, object_number, function_number}
use Rattle.machine.specs.declared.state.Local.{Local}
use Rattle.machine.specs.declared.state.Leaving.{Leaving}
use Rattle.machine.specs.declared.state.Todo.{Todo}
use Rattle.machine.specs.declared.request.Request.{Request}
use Rattle.machine.specs.State.{Name}

-- what one move does
pub data Did : Type 0 where
  -- it stays in the body
  GoesOn : Leaving → List Local → List Todo → Did
  -- it enters a timeout block with this body
  Enters : Option ℕ → Bool → List Statement → List Todo → Did
  -- it asks, and the name takes the answer
  Asks : Request → Option Name → List Todo → Did

-- a time of `within` as a wait
abbrev pub timed : Option ℕ → Wait
timed None = Wait.Block
timed (Some ms) = Wait.Within ms

-- `now`, or none
abbrev pub at_once : Bool → Wait
at_once true = Wait.Now
at_once false = Wait.Block

-- the request with its operands, or the fault of the first operand that has one
abbrev pub Asked : Type 0
Asked = Result Request FaultKind

-- a request with one operand
abbrev pub one : Outcome → (Value → Request) → Asked
one (Outcome.Value v) r = Ok (r v)
one (Outcome.Fault f) r = Err f

-- a request with two operands
abbrev pub two : Outcome → Outcome → (Value → Value → Request) → Asked
two (Outcome.Value v) (Outcome.Value w) r = Ok (r v w)
two (Outcome.Value v) (Outcome.Fault f) r = Err f
two (Outcome.Fault f) o r = Err f

-- the second operand may be missing
abbrev pub one_or_two : Outcome → Option Outcome → (Value → Option Value → Request) → Asked
one_or_two (Outcome.Fault f) o r = Err f
one_or_two (Outcome.Value v) None r = Ok (r v None)
one_or_two (Outcome.Value v) (Some (Outcome.Value w)) r = Ok (r v (Some w))
one_or_two (Outcome.Value v) (Some (Outcome.Fault f)) r = Err f

-- a request whose one operand may be missing
abbrev pub if_any : Option Outcome → (Option Value → Request) → Asked
if_any None r = Ok (r None)
if_any (Some (Outcome.Value w)) r = Ok (r (Some w))
if_any (Some (Outcome.Fault f)) r = Err f

-- a request with the arguments of a function
abbrev pub many : Result (List Value) FaultKind → (List Value → Request) → Asked
many (Ok vs) r = Ok (r vs)
many (Err f) r = Err f

-- the meaning of an operand that may be missing
abbrev pub meaning_if : Option Expression → Around → Option Outcome
meaning_if None a = None
meaning_if (Some e) a = Some (meaning e a)

-- the values of the arguments, or the first fault
abbrev pub values : List Expression → Around → Result (List Value) FaultKind
values es a = meanings (map meaning es) a

-- the number of the object of this name
abbrev pub object : Name → Around → ℕ
object x a = object_number x a.scenario.objects

-- the number of the function of this name
abbrev pub function : Name → Around → ℕ
function x a = function_number x a.scenario.functions

-- the kind of a link whose function is called
abbrev pub link_kind : LinkEnd → LinkKind
link_kind LinkEnd.Any = LinkKind.Any
link_kind LinkEnd.Value = LinkKind.Value
link_kind LinkEnd.Fault = LinkKind.Fault

-- what a statement that gives a value asks
abbrev pub giving_request : Giving → Around → Asked
giving_request (Giving.Spawn f es) a = many (values es a) (Request.Spawn (function f a))
giving_request (Giving.SpawnLater ms f es) a = many (values es a) (Request.SpawnLater ms (function f a))
giving_request (Giving.New f es) a = many (values es a) (Request.New (function f a))
giving_request (Giving.Get e w) a = one (meaning e a) (λ v. Request.Get v w)
giving_request (Giving.JoinAll e n t) a = one (meaning e a) (λ v. Request.JoinAll v n (timed t))
giving_request (Giving.Link k e f) a = one (meaning e a) (λ v. Request.Link v (link_kind k) (function f a))
giving_request (Giving.LinkMark e n) a = one (meaning e a) (λ v. Request.Link v (LinkKind.Mark n) 0)
giving_request (Giving.LinkSet e x) a = one (meaning e a) (λ v. Request.Link v (LinkKind.Set (object x a)) 0)
giving_request (Giving.WaitEvent x t) a = Ok (Request.WaitEvent (object x a) (timed t))
giving_request (Giving.ResultGet x w) a = Ok (Request.ResultGet (object x a) w)
giving_request (Giving.ResultWait x t) a = Ok (Request.ResultWait (object x a) (timed t))
giving_request (Giving.Acquire x w) a = Ok (Request.Acquire (object x a) w)
giving_request (Giving.QueueGet x w) a = Ok (Request.QueueGet (object x a) w)
giving_request (Giving.QueuePeek x w) a = Ok (Request.QueuePeek (object x a) w)
giving_request (Giving.QueueJoin x t) a = Ok (Request.QueueJoin (object x a) (timed t))
giving_request (Giving.GroupSpawn x f es) a = many (values es a) (Request.GroupSpawn (object x a) (function f a))
giving_request (Giving.Map x f e) a = one (meaning e a) (Request.Map (object x a) (function f a))
giving_request (Giving.NativeSpawn x k e t) a = one (meaning e a) (λ v. Request.NativeSpawn (object x a) k v (unwrap_or t 0))
giving_request (Giving.Raw f e) a = if_any (meaning_if e a) (Request.Raw (function f a))
giving_request (Giving.Switch e d) a = two (meaning e a) (meaning d a) Request.Switch
giving_request (Giving.Throw e d) a = one_or_two (meaning e a) (meaning_if d a) Request.Throw
giving_request (Giving.ChannelGet x) a = Ok (Request.ChannelGet (object x a))

-- the body after a test
abbrev pub tested : Outcome → List Local → (Bool → List Todo) → Did
tested (Outcome.Value (Value.Bool b)) locals go = Did.GoesOn Leaving.Normally locals (go b)
tested (Outcome.Value v) locals go = Did.GoesOn (Leaving.Raising FaultKind.TypeError) locals (go false)
tested (Outcome.Fault f) locals go = Did.GoesOn (Leaving.Raising f) locals (go false)

-- `raise`: the operand is a fault
abbrev pub raised : Value → Leaving
raised (Value.Fault f) = Leaving.Raising f
raised v = Leaving.Raising FaultKind.TypeError

-- the request is asked, or the fault of an operand is raised
abbrev pub asked : Asked → Option Name → List Local → List Todo → Did
asked (Ok r) x locals todo = Did.Asks r x todo
asked (Err f) x locals todo = Did.GoesOn (Leaving.Raising f) locals todo

-- the value of the operand is used, or its fault is raised
abbrev pub on_value : Outcome → (Value → Did) → List Local → List Todo → Did
on_value (Outcome.Value v) go locals todo = go v
on_value (Outcome.Fault f) go locals todo = Did.GoesOn (Leaving.Raising f) locals todo

-- one evaluation of a while's condition
abbrev pub while_move : Expression → List Statement → Around → List Todo → Did
while_move e body a todo = tested (meaning e a) a.locals (λ b. if b then (Todo.Statements body ∷ Todo.Again e body ∷ todo) else todo)

-- a request whose answer no name takes
abbrev pub asked_only : Asked → Around → List Todo → Did
asked_only r a todo = asked r None a.locals todo

-- the move of a statement that gives no value: `let`, `return` and `raise` stay in the body, the others ask
abbrev pub command_move : Command → Around → List Todo → Did
command_move (Command.Let x e) a todo = on_value (meaning e a) (λ v. Did.GoesOn Leaving.Normally (bind x v a.locals) todo) a.locals todo
command_move (Command.Return e) a todo = on_value (meaning e a) (λ v. Did.GoesOn (Leaving.Returning v) a.locals todo) a.locals todo
command_move (Command.Raise e) a todo = on_value (meaning e a) (λ v. Did.GoesOn (raised v) a.locals todo) a.locals todo
command_move (Command.Print e) a todo = asked_only (one (meaning e a) Request.Print) a todo
command_move (Command.Start e) a todo = asked_only (one (meaning e a) Request.Start) a todo
command_move (Command.Sleep ms) a todo = asked_only (Ok (Request.Sleep ms)) a todo
command_move (Command.Join e t) a todo = asked_only (one (meaning e a) (λ v. Request.Join v (timed t))) a todo
command_move (Command.Kill e f w) a todo = asked_only (one_or_two (meaning e a) (meaning_if f a) (λ v o. Request.Kill v o w)) a todo
command_move (Command.KillAll e f w) a todo = asked_only (one_or_two (meaning e a) (meaning_if f a) (λ v o. Request.KillAll v o w)) a todo
command_move (Command.Unlink e) a todo = asked_only (one (meaning e a) Request.Unlink) a todo
command_move (Command.Set x) a todo = asked_only (Ok (Request.Set (object x a))) a todo
command_move (Command.Clear x) a todo = asked_only (Ok (Request.Clear (object x a))) a todo
command_move (Command.ResultSet x e) a todo = asked_only (one (meaning e a) (Request.ResultSet (object x a))) a todo
command_move (Command.ResultFail x e) a todo = asked_only (one (meaning e a) (Request.ResultFail (object x a))) a todo
command_move (Command.Release x) a todo = asked_only (Ok (Request.Release (object x a))) a todo
command_move (Command.QueuePut x e w) a todo = asked_only (one (meaning e a) (λ v. Request.QueuePut (object x a) v w)) a todo
command_move (Command.QueueDone x) a todo = asked_only (Ok (Request.QueueDone (object x a))) a todo
command_move (Command.GroupJoin x t) a todo = asked_only (Ok (Request.GroupJoin (object x a) (timed t))) a todo
command_move (Command.GroupKill x f now) a todo = asked_only (if_any (meaning_if f a) (λ o. Request.GroupKill (object x a) o (at_once now))) a todo
command_move (Command.SetParent e d) a todo = asked_only (two (meaning e a) (meaning d a) Request.SetParent) a todo
command_move (Command.ChannelPut x e) a todo = asked_only (one (meaning e a) (Request.ChannelPut (object x a))) a todo
command_move (Command.QueueShut x immediate) a todo = asked_only (Ok (Request.QueueShut (object x a) immediate)) a todo

-- the move of a statement, where this is still to do after it
abbrev pub action_move : Action-F Action Except Statement → Around → List Todo → Did
action_move (Action-F.Command command) a todo = command_move command a todo
action_move (Action-F.Giving x giving) a todo = asked (giving_request giving a) x a.locals todo
action_move (Action-F.If e yes' no') a todo = tested (meaning e a) a.locals (λ b. Todo.Statements (if b then yes' else unwrap_or no' []) ∷ todo)
action_move (Action-F.While e body) a todo = while_move e body a todo
action_move (Action-F.Try body excepts finally) a todo = Did.GoesOn Leaving.Normally a.locals (Todo.Statements body ∷ Todo.Guard excepts (unwrap_or finally []) ∷ todo)
action_move (Action-F.Timeout ms silent body) a todo = Did.Enters ms silent body todo

-- the move at the head of what is still to do
abbrev pub body_move : List Todo → Around → Did
body_move (Todo.Statements (s ∷ ss) ∷ todo) a = action_move (out-Action (out-Statement s).action) a (Todo.Statements ss ∷ todo)
body_move (Todo.Again e body ∷ todo) a = while_move e body a todo
-- what is still to do never begins otherwise
body_move todo a = Did.GoesOn Leaving.Normally a.locals todo
