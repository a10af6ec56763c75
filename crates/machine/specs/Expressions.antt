-- What an expression means, by the locals and what the hub says. `ready`, `successful`, `value` and `exception` are
-- those of gevent API reference, `gevent.Greenlet`, the queries those of its locks, queues and pools.
use Rattle.std.specs.Prelude.{ℕ, ◌+◌, Bool, true, false, not, List, [], ◌∷◌, ◌++◌, Option, Some, None, Result, Ok, Err, ℤ, pos, negsuc, int_lt, int_le, if◌then◌else◌, slice_get, bytes_eq, length, nat_lt}
use Rattle.scenario_tree.specs.declared.tree.Expression.{Expression}
use Rattle.scenario_tree.specs.declared.tree.Expression.TheBlock.{laid-Expression}
use Rattle.scenario_tree.specs.declared.tree.Expression.TheFolds.{family, steps}
use Rattle.scenario_tree.specs.declared.tree.Expression.TheOpen.{Expression-F}
use Rattle.gv_values.specs.declared.fault.FaultKind.{FaultKind}
use Rattle.scenario_tree.specs.declared.tree.Unary.{Unary}
use Rattle.scenario_tree.specs.declared.tree.Binary.{Binary}
use Rattle.scenario_tree.specs.declared.tree.Query.{Query}
use Rattle.scenario_tree.specs.declared.tree.Scenario.{Scenario}
use Rattle.scenario_tree.specs.declared.tree.Function.{Function}
use Rattle.scenario_tree.specs.declared.tree.Declaration.{Declaration}
use Rattle.gv_values.specs.declared.value.Value.{Value}
use Rattle.gv_values.specs.declared.scalar.Scalar.{Scalar}
use Rattle.gv_values.specs.declared.value.Outcome.{Outcome}
use Rattle.gv_values.specs.declared.value.Whom.{Whom}
use Rattle.gv_values.specs.Value.{value_eq, value_of_scalar, scalar_of_value}
use Rattle.gv_values.specs.Arithmetic.{arith_of}
use Rattle.machine.specs.declared.state.Local.{Local}
use Rattle.machine.specs.State.{Name}
use Rattle.gv_values.specs.declared.limits.TheConstants.{MOST_ELEMENTS}

-- the same bytes
abbrev pub name_eq : Name → Name → Bool
name_eq = bytes_eq

-- the value that a name has; one that has none yet is none
abbrev pub value_of_local : Name → List Local → Value
value_of_local x [] = Value.Nothing
value_of_local x (l ∷ ls) = if name_eq x l.name then l.value else value_of_local x ls

-- the locals after the name took the value
abbrev pub bind : Name → Value → List Local → List Local
bind x v [] = record { name = x; value = v } ∷ []
bind x v (l ∷ ls) = if name_eq x l.name then (record { name = x; value = v } ∷ ls) else (l ∷ bind x v ls)

-- the number of an object: its place in order of declaration
abbrev pub object_number : Name → List Declaration → ℕ
object_number x [] = 0
object_number x (d ∷ ds) = if name_eq x d.name then 0 else object_number x ds + 1

-- the number of a function: its place in order of declaration
abbrev pub function_number : Name → List Function → ℕ
function_number x [] = 0
function_number x (f ∷ fs) = if name_eq x f.name then 0 else function_number x fs + 1

-- what an expression may ask of the hub: the current greenlet, what a greenlet or job ended with, whether an event or a
-- result is set, the counter, items or members of an object, and a queue's unfinished tasks
pub record Look : Type 0 where
  pub current : ℕ
  pub outcome : Whom → Option Outcome
  pub is_set : ℕ → Bool
  pub size : ℕ → ℕ
  pub unfinished : ℕ → ℕ

-- an operand of another kind
abbrev pub type_error : Outcome
type_error = Outcome.Fault FaultKind.TypeError

-- goes on with the value, or stays at the fault
abbrev pub with_value : Outcome → (Value → Outcome) → Outcome
with_value (Outcome.Value v) go = go v
with_value (Outcome.Fault f) go = Outcome.Fault f

-- an integer or a fault, as the outcome of an expression
abbrev pub of_result : Result ℤ FaultKind → Outcome
of_result (Ok z) = Outcome.Value (Value.Int z)
of_result (Err f) = Outcome.Fault f

-- what is computed of two integers
abbrev pub on_ints : (ℤ → ℤ → Outcome) → Value → Value → Outcome
on_ints f (Value.Int a) (Value.Int b) = f a b
on_ints f _ _ = type_error

-- a truth value as an outcome
abbrev pub truth : Bool → Outcome
truth b = Outcome.Value (Value.Bool b)

-- the list with one scalar more; a list is no scalar, and a full list takes none
abbrev pub pushed_to : List Scalar → Option Scalar → Outcome
pushed_to xs None = type_error
pushed_to xs (Some x) = if nat_lt (length xs) MOST_ELEMENTS then Outcome.Value (Value.List (xs ++ x ∷ [])) else Outcome.Fault FaultKind.ValueError

-- `push`: the operand is a list, and what is pushed a scalar
abbrev pub pushed : Value → Value → Outcome
pushed (Value.List xs) v = pushed_to xs (scalar_of_value v)
pushed _ v = type_error

-- the scalar that was found; none is out of range
abbrev pub scalar_or_fault : Option Scalar → Outcome
scalar_or_fault None = Outcome.Fault FaultKind.ValueError
scalar_or_fault (Some x) = Outcome.Value (value_of_scalar x)

-- `at`: the element at a place counted from 0
abbrev pub element : Value → Value → Outcome
element (Value.List xs) (Value.Int (pos i)) = scalar_or_fault (slice_get xs i)
element (Value.List xs) (Value.Int (negsuc i)) = Outcome.Fault FaultKind.ValueError
element _ _ = type_error

-- the operators of two operands that are both evaluated
abbrev pub binary : Binary → Value → Value → Outcome
binary (Binary.Arithmetic op) a b = on_ints (λ x y. of_result (arith_of op x y)) a b
binary Binary.Equal a b = truth (value_eq a b)
binary Binary.NotEqual a b = truth (not (value_eq a b))
binary Binary.Less a b = on_ints (λ x y. truth (int_lt x y)) a b
binary Binary.AtMost a b = on_ints (λ x y. truth (int_le x y)) a b
binary Binary.Push a b = pushed a b
binary Binary.At a b = element a b

-- what f says of the outcome of the greenlet or job
abbrev pub of_whom : Look → (Option Outcome → Value) → Value → Outcome
of_whom look f (Value.Greenlet g) = Outcome.Value (f (look.outcome (Whom.Greenlet g)))
of_whom look f (Value.Job j) = Outcome.Value (f (look.outcome (Whom.Job j)))
of_whom look f _ = type_error

-- `ready`: it has ended
abbrev pub is_done : Option Outcome → Value
is_done None = Value.Bool false
is_done (Some o) = Value.Bool true

-- `successful`: it has ended with a value
abbrev pub is_successful : Option Outcome → Value
is_successful (Some (Outcome.Value v)) = Value.Bool true
is_successful _ = Value.Bool false

-- `value`: what it ended with, none where it has not ended or ended by a fault
abbrev pub the_value : Option Outcome → Value
the_value (Some (Outcome.Value v)) = v
the_value _ = Value.Nothing

-- `exception`: the fault that it ended by, as a value, else none
abbrev pub the_fault : Option Outcome → Value
the_fault (Some (Outcome.Fault f)) = Value.Fault f
the_fault _ = Value.Nothing

-- the operators of one operand
abbrev pub unary : Unary → Look → Value → Outcome
unary Unary.Not look (Value.Bool b) = truth (not b)
unary Unary.Not look _ = type_error
unary Unary.Length look (Value.List xs) = Outcome.Value (Value.Int (pos (length xs)))
unary Unary.Length look _ = type_error
unary Unary.Ready look v = of_whom look is_done v
unary Unary.Successful look v = of_whom look is_successful v
unary Unary.Value look v = of_whom look the_value v
unary Unary.Exception look v = of_whom look the_fault v

-- what is asked of the object of this number
abbrev pub query : Query → Look → ℕ → Value
query Query.IsSet look n = Value.Bool (look.is_set n)
query Query.Counter look n = Value.Int (pos (look.size n))
query Query.QueueSize look n = Value.Int (pos (look.size n))
query Query.Unfinished look n = Value.Int (pos (look.unfinished n))
query Query.Members look n = Value.Int (pos (look.size n))

-- what stands round an expression: the scenario, the hub and the locals
pub record Around : Type 0 where
  pub scenario : Scenario
  pub look : Look
  pub locals : List Local

-- the value of an expression, or its fault
abbrev pub Meaning : Type 0
Meaning = Around → Outcome

-- the values of all, or the first fault
abbrev pub meanings : List Meaning → Around → Result (List Value) FaultKind
meanings [] a = Ok []
meanings (m ∷ ms) a = first (m a) (meanings ms a)
  where
    first : Outcome → Result (List Value) FaultKind → Result (List Value) FaultKind
    first (Outcome.Fault f) r = Err f
    first (Outcome.Value v) (Ok vs) = Ok (v ∷ vs)
    first (Outcome.Value v) (Err f) = Err f

-- all values as scalars; none where one is a list
abbrev pub scalars : List Value → Option (List Scalar)
scalars [] = Some []
scalars (v ∷ vs) = with_more (scalar_of_value v) (scalars vs)
  where
    with_more : Option Scalar → Option (List Scalar) → Option (List Scalar)
    with_more (Some x) (Some xs) = Some (x ∷ xs)
    with_more _ _ = None

-- `list`: all elements are evaluated before a list among them is refused, and no list has more than `MOST_ELEMENTS`
abbrev pub listed : Result (List Value) FaultKind → Outcome
listed (Err f) = Outcome.Fault f
listed (Ok vs) = as_list (scalars vs)
  where
    as_list : Option (List Scalar) → Outcome
    as_list (Some xs) = if nat_lt MOST_ELEMENTS (length xs) then Outcome.Fault FaultKind.ValueError else Outcome.Value (Value.List xs)
    as_list None = type_error

-- `and`: the second operand is a truth value too, and is not looked at where the first is false
abbrev pub and_then : Value → Outcome → Outcome
and_then (Value.Bool false) o = truth false
and_then (Value.Bool true) (Outcome.Value (Value.Bool b)) = truth b
and_then (Value.Bool true) (Outcome.Fault f) = Outcome.Fault f
and_then _ _ = type_error

-- `or`: the second operand is a truth value too, and is not looked at where the first is true
abbrev pub or_else : Value → Outcome → Outcome
or_else (Value.Bool true) o = truth true
or_else (Value.Bool false) (Outcome.Value (Value.Bool b)) = truth b
or_else (Value.Bool false) (Outcome.Fault f) = Outcome.Fault f
or_else _ _ = type_error

-- one level: the meaning of a form from those of its operands, from left to right
abbrev pub meaning_step : Expression-F Meaning → Meaning
meaning_step Expression-F.Nothing a = Outcome.Value Value.Nothing
meaning_step (Expression-F.Bool b) a = truth b
meaning_step (Expression-F.Int z) a = Outcome.Value (Value.Int z)
meaning_step (Expression-F.Local x) a = Outcome.Value (value_of_local x a.locals)
meaning_step Expression-F.Current a = Outcome.Value (Value.Greenlet a.look.current)
meaning_step (Expression-F.Fault f) a = Outcome.Value (Value.Fault f)
meaning_step (Expression-F.Unary op m) a = with_value (m a) (unary op a.look)
meaning_step (Expression-F.Binary op m n) a = with_value (m a) (λ x. with_value (n a) (binary op x))
meaning_step (Expression-F.And m n) a = with_value (m a) (λ x. and_then x (n a))
meaning_step (Expression-F.Or m n) a = with_value (m a) (λ x. or_else x (n a))
meaning_step (Expression-F.List ms) a = listed (meanings ms a)
meaning_step (Expression-F.Query q x) a = Outcome.Value (query q a.look (object_number x a.scenario.objects))

-- the value of the expression, or its first fault
abbrev pub meaning : Expression → Meaning
meaning = laid-Expression (family Meaning) (steps Meaning meaning_step)
