-- A body whose calls have few arguments asks with few, and keeps that.
use Rattle.std.proofs.Common.{◌≤◌, refl, sym, subst, ℕ, zero, suc, Bool, true, false, List, [], ◌∷◌, length, Option, Some, None, Result, Ok, Err}
use Rattle.std.specs.Prelude.{if◌then◌else◌, pos, unwrap_or}
use Rattle.gv_values.specs.declared.fault.FaultKind.{FaultKind}
use Rattle.gv_values.specs.declared.value.Outcome.{Outcome}
use Rattle.gv_values.specs.declared.value.Value.{Value}
use Rattle.gv_values.specs.Fault.{catches}
use Rattle.scenario_tree.specs.declared.tree.Action.{Action, Action-F, out-Action}
use Rattle.scenario_tree.specs.declared.tree.Command.{Command}
use Rattle.scenario_tree.specs.declared.tree.Except.{Except, out-Except}
use Rattle.scenario_tree.specs.declared.tree.Expression.{Expression}
use Rattle.scenario_tree.specs.declared.tree.Function.{Function}
use Rattle.scenario_tree.specs.declared.tree.Giving.{Giving}
use Rattle.scenario_tree.specs.declared.tree.Statement.{Statement, out-Statement}
use Rattle.scenario_tree.specs.declared.limits.TheConstants.{MOST_PARAMETERS}
use Rattle.gv_values.specs.declared.link.LinkKind.{LinkKind}
use Rattle.machine.specs.declared.state.Leaving.{Leaving}
use Rattle.machine.specs.declared.state.Local.{Local}
use Rattle.machine.specs.declared.state.Todo.{Todo}
use Rattle.machine.specs.State.{Name}
use Rattle.machine.specs.Bodies.{Body, Stepped, after_move, begins, goes, resume}
use Rattle.machine.specs.Expressions.{Around, meaning}
use Rattle.machine.specs.BodyMoves.{Asked, Did, action_move, asked, asked_only, at_once, body_move, command_move, function, giving_request, if_any, link_kind, many, meaning_if, object, on_value, one, one_or_two, tested, timed, two, values, while_move}
use Rattle.machine.specs.declared.request.Request.{Request}
use Rattle.machine.specs.Landing.{given}
use Rattle.machine.specs.Ends.{leaving_of}
use Rattle.machine.specs.Greenlets.{named}
use Rattle.machine.specs.Unwinding.{Caught, Unwound, bind_if, block_first, catching, finally_first, unwind}
use Rattle.body_blocks.specs.Few.{HasFew, HasFewArguments, HasFewExcepts, HasFewParts}
use Rattle.body_entries.specs.Few.{HasFewToDo}
use Rattle.body_frames.specs.Few.{AsksFew, HasFewBody, HasFewDid, HasFewStep, HasFewUnwound}
use Rattle.body_values.proofs.Few.{caught-few, head-few, others-few, rest-few}
use Rattle.body_moves.proofs.Counts.{HasLength, values-length}

-- ---- raising

-- the body of the except that catches, if one does
abbrev pub HasFewCaught : Option Caught → Type 0
HasFewCaught None = Unit {0}
HasFewCaught (Some e) = HasFew e.body

-- it has few where the excepts have
pub catching-few : (f : FaultKind) (es : List Except) → HasFewExcepts es → HasFewCaught (catching f es)
catching-few f [] h = tt
catching-few f (e ∷ es) h = by (catches (out-Except e).class f) (catching-few f es (others-few e es h))
  where
    by : (b : Bool) → HasFewCaught (catching f es) →
        HasFewCaught (if b then Some (record { name = (out-Except e).name; body = (out-Except e).body }) else catching f es)
    by true rest = caught-few e es h
    by false rest = rest

-- what is still to do, where a finally comes first
finally_first-few : (ss : List Statement) (left : List ℕ) (how : Leaving) (locals : List Local) (todo : List Todo) (otherwise : Unwound) →
    HasFew ss → HasFewToDo todo → HasFewUnwound otherwise → HasFewUnwound (finally_first ss left how locals todo otherwise)
finally_first-few [] left how locals todo otherwise h k o = o
finally_first-few (s ∷ ss) left how locals todo otherwise h k o = (h, (tt, k))

-- the same of the body of an except
block_first-few : (ss : List Statement) (left : List ℕ) (locals : List Local) (todo : List Todo) (otherwise : Unwound) →
    HasFew ss → HasFewToDo todo → HasFewUnwound otherwise → HasFewUnwound (block_first ss left locals todo otherwise)
block_first-few [] left locals todo otherwise h k o = o
block_first-few (s ∷ ss) left locals todo otherwise h k o = (h, k)

-- what is still to do, where a block is left in whatever way
pub unwind-few : (todo : List Todo) (left : List ℕ) (how : Leaving) (locals : List Local) → HasFewToDo todo → HasFewUnwound (unwind todo left how locals)
unwind-few [] left how locals h = tt
unwind-few (Todo.Statements [] ∷ todo) left how locals h = unwind-few todo left how locals h.1
unwind-few (Todo.Statements (s ∷ ss) ∷ todo) left Leaving.Normally locals h = h
unwind-few (Todo.Statements (s ∷ ss) ∷ todo) left how locals h = unwind-few todo left how locals h.1
unwind-few (Todo.Again e body ∷ todo) left Leaving.Normally locals h = h
unwind-few (Todo.Again e body ∷ todo) left how locals h = unwind-few todo left how locals h.1
unwind-few (Todo.Within n silent ∷ todo) left how locals h = unwind-few todo _ _ locals h.1
unwind-few (Todo.Afterwards before ∷ todo) left Leaving.Normally locals h = unwind-few todo left before locals h.1
unwind-few (Todo.Afterwards before ∷ todo) left how locals h = unwind-few todo left how locals h.1
unwind-few (Todo.Guard excepts finally ∷ todo) left (Leaving.Raising f) locals h =
    by (catching f excepts) (catching-few f excepts h.0.0) (λ how own. unwind-few todo left how own h.1)
  where
    by : (o : Option Caught) → HasFewCaught o → ((how : Leaving) (own : List Local) → HasFewUnwound (unwind todo left how own)) →
        HasFewUnwound (elim o [
          | None ↦ finally_first finally left (Leaving.Raising f) locals todo (unwind todo left (Leaving.Raising f) locals)
          | Some e ↦
              block_first e.body left (bind_if e.name (Value.Fault f) locals) (Todo.Guard [] finally ∷ todo)
              (finally_first finally left Leaving.Normally (bind_if e.name (Value.Fault f) locals) todo
              (unwind todo left Leaving.Normally (bind_if e.name (Value.Fault f) locals)))
        ])
    by None k outer = finally_first-few finally left (Leaving.Raising f) locals todo _ h.0.1 h.1 (outer (Leaving.Raising f) locals)
    by (Some e) k outer =
        let own = bind_if e.name (Value.Fault f) locals in
        block_first-few e.body left own (Todo.Guard [] finally ∷ todo) _ k ((refl, h.0.1), h.1)
        (finally_first-few finally left Leaving.Normally own todo _ h.0.1 h.1 (outer Leaving.Normally own))
unwind-few (Todo.Guard excepts finally ∷ todo) left how locals h = finally_first-few finally left how locals todo _ h.0.1 h.1 (unwind-few todo left how locals h.1)

-- a body of a function begins
pub begins-few : (f : Function) (args : List Value) → HasFew f.body → HasFewBody (begins f args)
begins-few f args h = unwind-few (Todo.Statements f.body ∷ []) [] Leaving.Normally (named f.parameters args) (h, tt)

-- ---- requests

-- the request, if no operand has a fault
abbrev AsksFewIfAny : Asked → Type 0
AsksFewIfAny (Ok request) = AsksFew request
AsksFewIfAny (Err f) = Unit {0}

one-few : (o : Outcome) (r : Value → Request) → ((v : Value) → AsksFew (r v)) → AsksFewIfAny (one o r)
one-few (Outcome.Value v) r k = k v
one-few (Outcome.Fault f) r k = tt

two-few : (o p : Outcome) (r : Value → Value → Request) → ((v w : Value) → AsksFew (r v w)) → AsksFewIfAny (two o p r)
two-few (Outcome.Value v) (Outcome.Value w) r k = k v w
two-few (Outcome.Value v) (Outcome.Fault f) r k = tt
two-few (Outcome.Fault f) p r k = tt

one_or_two-few : (o : Outcome) (p : Option Outcome) (r : Value → Option Value → Request) → ((v : Value) (w : Option Value) → AsksFew (r v w)) → AsksFewIfAny (one_or_two o p r)
one_or_two-few (Outcome.Fault f) p r k = tt
one_or_two-few (Outcome.Value v) None r k = k v None
one_or_two-few (Outcome.Value v) (Some (Outcome.Value w)) r k = k v (Some w)
one_or_two-few (Outcome.Value v) (Some (Outcome.Fault f)) r k = tt

if_any-few : (p : Option Outcome) (r : Option Value → Request) → ((w : Option Value) → AsksFew (r w)) → AsksFewIfAny (if_any p r)
if_any-few None r k = k None
if_any-few (Some (Outcome.Value w)) r k = k (Some w)
if_any-few (Some (Outcome.Fault f)) r k = tt

-- so a request with the values has few where the statement has
many-few : (es : List Expression) (a : Around) (r : List Value → Request) → length es ≤ MOST_PARAMETERS →
    ((args : List Value) → length args ≤ MOST_PARAMETERS → AsksFew (r args)) → AsksFewIfAny (many (values es a) r)
many-few es a r h k = by (values es a) (values-length es a)
  where
    by : (vs : Result (List Value) FaultKind) → HasLength (length es) vs → AsksFewIfAny (many vs r)
    by (Ok args) e = k args (subst (λ n. n ≤ MOST_PARAMETERS) (sym e) h)
    by (Err f) e = tt

-- a statement that gives a value asks with as many arguments as it has
giving_request-few : (g : Giving) (a : Around) → HasFewArguments g → AsksFewIfAny (giving_request g a)
giving_request-few (Giving.Spawn f es) a h = many-few es a (Request.Spawn (function f a)) h (λ args k. k)
giving_request-few (Giving.SpawnLater ms f es) a h = many-few es a (Request.SpawnLater ms (function f a)) h (λ args k. k)
giving_request-few (Giving.New f es) a h = many-few es a (Request.New (function f a)) h (λ args k. k)
giving_request-few (Giving.GroupSpawn x f es) a h = many-few es a (Request.GroupSpawn (object x a) (function f a)) h (λ args k. k)
giving_request-few (Giving.Get e w) a h = one-few (meaning e a) (λ v. Request.Get v w) (λ v. tt)
giving_request-few (Giving.JoinAll e n t) a h = one-few (meaning e a) (λ v. Request.JoinAll v n (timed t)) (λ v. tt)
giving_request-few (Giving.Link k e f) a h = one-few (meaning e a) (λ v. Request.Link v (link_kind k) (function f a)) (λ v. tt)
giving_request-few (Giving.LinkMark e n) a h = one-few (meaning e a) (λ v. Request.Link v (LinkKind.Mark n) 0) (λ v. tt)
giving_request-few (Giving.LinkSet e x) a h = one-few (meaning e a) (λ v. Request.Link v (LinkKind.Set (object x a)) 0) (λ v. tt)
giving_request-few (Giving.Map x f e) a h = one-few (meaning e a) (Request.Map (object x a) (function f a)) (λ v. tt)
giving_request-few (Giving.NativeSpawn x k e t) a h = one-few (meaning e a) (λ v. Request.NativeSpawn (object x a) k v (unwrap_or t 0)) (λ v. tt)
giving_request-few (Giving.Raw f e) a h = if_any-few (meaning_if e a) (Request.Raw (function f a)) (λ o. tt)
giving_request-few (Giving.Switch e d) a h = two-few (meaning e a) (meaning d a) Request.Switch (λ v w. tt)
giving_request-few (Giving.Throw e d) a h = one_or_two-few (meaning e a) (meaning_if d a) Request.Throw (λ v o. tt)
giving_request-few g a h = tt

-- ---- one move

asked-few : (r : Asked) (x : Option Name) (locals : List Local) (todo : List Todo) → AsksFewIfAny r → HasFewToDo todo → HasFewDid (asked r x locals todo)
asked-few (Ok request) x locals todo h k = (h, k)
asked-few (Err f) x locals todo h k = k

on_value-few : (o : Outcome) (go : Value → Did) (locals : List Local) (todo : List Todo) → HasFewToDo todo → ((v : Value) → HasFewDid (go v)) →
    HasFewDid (on_value o go locals todo)
on_value-few (Outcome.Value v) go locals todo h k = k v
on_value-few (Outcome.Fault f) go locals todo h k = h

tested-few : (o : Outcome) (locals : List Local) (go : Bool → List Todo) → ((b : Bool) → HasFewToDo (go b)) → HasFewDid (tested o locals go)
tested-few (Outcome.Value (Value.Bool b)) locals go k = k b
tested-few (Outcome.Value v) locals go k = k false
tested-few (Outcome.Fault f) locals go k = k false

while_move-few : (e : Expression) (body : List Statement) (a : Around) (todo : List Todo) → HasFew body → HasFewToDo todo → HasFewDid (while_move e body a todo)
while_move-few e body a todo h k = tested-few (meaning e a) a.locals (λ b. if b then (Todo.Statements body ∷ Todo.Again e body ∷ todo) else todo) by
  where
    by : (b : Bool) → HasFewToDo (if b then (Todo.Statements body ∷ Todo.Again e body ∷ todo) else todo)
    by true = (h, (h, k))
    by false = k

asks_only-few : (r : Asked) (a : Around) (todo : List Todo) → AsksFewIfAny r → HasFewToDo todo → HasFewDid (asked_only r a todo)
asks_only-few r a todo h k = asked-few r None a.locals todo h k

-- a statement that gives no value has no arguments
command_move-few : (x : Command) (a : Around) (todo : List Todo) → HasFewToDo todo → HasFewDid (command_move x a todo)
command_move-few (Command.Let x e) a todo h = on_value-few (meaning e a) _ a.locals todo h (λ v. h)
command_move-few (Command.Return e) a todo h = on_value-few (meaning e a) _ a.locals todo h (λ v. h)
command_move-few (Command.Raise e) a todo h = on_value-few (meaning e a) _ a.locals todo h (λ v. h)
command_move-few (Command.Print e) a todo h = asks_only-few _ a todo (one-few (meaning e a) Request.Print (λ v. tt)) h
command_move-few (Command.Start e) a todo h = asks_only-few _ a todo (one-few (meaning e a) Request.Start (λ v. tt)) h
command_move-few (Command.Join e t) a todo h = asks_only-few _ a todo (one-few (meaning e a) (λ v. Request.Join v (timed t)) (λ v. tt)) h
command_move-few (Command.Kill e f w) a todo h = asks_only-few _ a todo (one_or_two-few (meaning e a) (meaning_if f a) (λ v o. Request.Kill v o w) (λ v o. tt)) h
command_move-few (Command.KillAll e f w) a todo h = asks_only-few _ a todo (one_or_two-few (meaning e a) (meaning_if f a) (λ v o. Request.KillAll v o w) (λ v o. tt)) h
command_move-few (Command.Unlink e) a todo h = asks_only-few _ a todo (one-few (meaning e a) Request.Unlink (λ v. tt)) h
command_move-few (Command.ResultSet x e) a todo h = asks_only-few _ a todo (one-few (meaning e a) (Request.ResultSet (object x a)) (λ v. tt)) h
command_move-few (Command.ResultFail x e) a todo h = asks_only-few _ a todo (one-few (meaning e a) (Request.ResultFail (object x a)) (λ v. tt)) h
command_move-few (Command.QueuePut x e w) a todo h = asks_only-few _ a todo (one-few (meaning e a) (λ v. Request.QueuePut (object x a) v w) (λ v. tt)) h
command_move-few (Command.GroupKill x f now) a todo h = asks_only-few _ a todo (if_any-few (meaning_if f a) (λ o. Request.GroupKill (object x a) o (at_once now)) (λ o. tt)) h
command_move-few (Command.SetParent e d) a todo h = asks_only-few _ a todo (two-few (meaning e a) (meaning d a) Request.SetParent (λ v w. tt)) h
command_move-few (Command.ChannelPut x e) a todo h = asks_only-few _ a todo (one-few (meaning e a) (Request.ChannelPut (object x a)) (λ v. tt)) h
-- the others have no operands
command_move-few x a todo h = (tt, h)

-- the move of a statement, by its form
pub action_move-few : (x : Action-F Action Except Statement) (a : Around) (todo : List Todo) → HasFewParts x → HasFewToDo todo → HasFewDid (action_move x a todo)
action_move-few (Action-F.Command x) a todo h k = command_move-few x a todo k
action_move-few (Action-F.Giving target g) a todo h k = asked-few (giving_request g a) target a.locals todo (giving_request-few g a h) k
action_move-few (Action-F.If e yes' no') a todo h k = tested-few (meaning e a) a.locals (λ b. Todo.Statements (if b then yes' else unwrap_or no' []) ∷ todo) by
  where
    by : (b : Bool) → HasFewToDo (Todo.Statements (if b then yes' else unwrap_or no' []) ∷ todo)
    by true = (h.0, k)
    by false = (h.1, k)
action_move-few (Action-F.While e body) a todo h k = while_move-few e body a todo h k
action_move-few (Action-F.Try body excepts finally) a todo h k = (h.0, ((h.1, h.2), k))
action_move-few (Action-F.Timeout ms silent body) a todo h k = (h, k)

-- what a move asks, and what is still to do after it
pub move-few : (todo : List Todo) (a : Around) → HasFewToDo todo → HasFewDid (body_move todo a)
move-few (Todo.Statements (s ∷ ss) ∷ todo) a h = action_move-few (out-Action (out-Statement s).action) a (Todo.Statements ss ∷ todo) (head-few s ss h.0) (rest-few s ss h.0, h.1)
move-few (Todo.Again e body ∷ todo) a h = while_move-few e body a todo h.0 h.1
move-few todo a h = h

-- ---- a step

-- what a step asks, and what is still to do after it
abbrev HasFewStepped : Stepped → Type 0
HasFewStepped d = HasFewStep d.step × HasFewBody d.body

after_move-few : (moves : ℕ) (locals : List Local) (go : Unwound → Stepped) (d : Did) → ((u : Unwound) → HasFewUnwound u → HasFewStepped (go u)) → HasFewDid d →
    HasFewStepped (after_move moves locals go d)
after_move-few moves locals go (Did.GoesOn how own todo) k h = k (unwind todo [] how own) (unwind-few todo [] how own h)
after_move-few moves locals go (Did.Enters ms silent body todo) k h = (tt, h)
after_move-few moves locals go (Did.Asks request x todo) k h = h

goes-few : (moves : ℕ) (around : List Local → Around) (u : Unwound) → HasFewUnwound u → HasFewStepped (goes moves around u)
goes-few moves around (Unwound.Runs (n ∷ left) locals todo) h = (tt, h)
goes-few moves around (Unwound.Out (n ∷ left) how) h = (tt, tt)
goes-few moves around (Unwound.Out [] how) h = (tt, tt)
goes-few zero around (Unwound.Runs [] locals todo) h = (tt, h)
goes-few (suc moves) around (Unwound.Runs [] locals todo) h =
    after_move-few moves locals (goes moves around) (body_move todo (around locals)) (goes-few moves around) (move-few todo (around locals) h)

step-few : (moves : ℕ) (around : List Local → Around) (body : Body) (input : Outcome) → HasFewBody body → HasFewStepped (resume moves around body input)
step-few moves around (Body.Ready unwound) input h = goes-few moves around unwound h
step-few moves around (Body.Waits frame) input h =
    goes-few moves around (unwind frame.todo [] (leaving_of input) (given frame input)) (unwind-few frame.todo [] (leaving_of input) (given frame input) h)
step-few moves around (Body.Enters silent body locals todo) (Outcome.Value (Value.Int (pos n))) h =
    goes-few moves around (unwind (Todo.Statements body ∷ Todo.Within n silent ∷ todo) [] Leaving.Normally locals)
    (unwind-few (Todo.Statements body ∷ Todo.Within n silent ∷ todo) [] Leaving.Normally locals (h.0, (tt, h.1)))
step-few moves around body input h = (tt, tt)

-- the body after a step
pub resume-few : (moves : ℕ) (around : List Local → Around) (body : Body) (input : Outcome) → HasFewBody body → HasFewBody (resume moves around body input).body
resume-few moves around body input h = (step-few moves around body input h).1

-- what the step asks
pub step-asks-few : (moves : ℕ) (around : List Local → Around) (body : Body) (input : Outcome) → HasFewBody body → HasFewStep (resume moves around body input).step
step-asks-few moves around body input h = (step-few moves around body input h).0
