-- How a block is left: outwards through except, finally and timeout blocks, to the next statement or out of the body
-- (Python's rules of `try`; gevent API reference, `gevent.Timeout`, and the silent `Timeout(seconds, False)`).
use Rattle.std.specs.Prelude.{ℕ, ◌==◌, Bool, true, List, [], ◌∷◌, ◌++◌, Option, Some, None, if◌then◌else◌}
use Rattle.scenario_tree.specs.declared.tree.Statement.{Statement}
use Rattle.scenario_tree.specs.declared.tree.Except.{Except, out-Except}
use Rattle.gv_values.specs.declared.fault.FaultKind.{FaultKind}
use Rattle.gv_values.specs.declared.value.Value.{Value}
use Rattle.gv_values.specs.Fault.{catches}
use Rattle.machine.specs.Expressions.{bind}
use Rattle.machine.specs.declared.state.Local.{Local}
use Rattle.machine.specs.declared.state.Leaving.{Leaving}
use Rattle.machine.specs.declared.state.Todo.{Todo}
use Rattle.machine.specs.State.{Name}

-- where a body stands after a block was left
pub data Unwound : Type 0 where
  -- the next move stands at the head of what is still to do; first the numbers of the timeout blocks that were left
  Runs : List ℕ → List Local → List Todo → Unwound
  -- nothing is left to do
  Out : List ℕ → Leaving → Unwound

-- the name, if there is one, takes the value
abbrev pub bind_if : Option Name → Value → List Local → List Local
bind_if None v locals = locals
bind_if (Some x) v locals = bind x v locals

-- a silent timeout block ends quietly where exactly its own Timeout comes out
abbrev pub past_timeout : ℕ → Bool → Leaving → Leaving
past_timeout n true (Leaving.Raising (FaultKind.Timeout m)) = if m == n then Leaving.Normally else Leaving.Raising (FaultKind.Timeout m)
past_timeout n silent how = how

-- the first except that catches the fault: its name and its body
pub record Caught : Type 0 where
  pub name : Option Name
  pub body : List Statement

-- the first except whose class catches the fault
abbrev pub catching : FaultKind → List Except → Option Caught
catching f [] = None
catching f (e ∷ es) = if catches (out-Except e).class f then Some (record { name = (out-Except e).name; body = (out-Except e).body }) else catching f es

-- a finally that has statements runs first, and else the try is left as it was to be
abbrev pub finally_first : List Statement → List ℕ → Leaving → List Local → List Todo → Unwound → Unwound
finally_first [] left how locals todo otherwise = otherwise
finally_first (s ∷ ss) left how locals todo otherwise = Unwound.Runs left locals (Todo.Statements (s ∷ ss) ∷ Todo.Afterwards how ∷ todo)

-- a block that has statements runs first, and else its end is passed
abbrev pub block_first : List Statement → List ℕ → List Local → List Todo → Unwound → Unwound
block_first [] left locals todo otherwise = otherwise
block_first (s ∷ ss) left locals todo otherwise = Unwound.Runs left locals (Todo.Statements (s ∷ ss) ∷ todo)

-- the stack of what is still to do is left in this way, innermost entry first, as far as the next statement
abbrev pub unwind : List Todo → List ℕ → Leaving → List Local → Unwound
unwind [] left how locals = Unwound.Out left how
unwind (Todo.Statements [] ∷ todo) left how locals = unwind todo left how locals
unwind (Todo.Statements (s ∷ ss) ∷ todo) left Leaving.Normally locals = Unwound.Runs left locals (Todo.Statements (s ∷ ss) ∷ todo)
unwind (Todo.Statements (s ∷ ss) ∷ todo) left how locals = unwind todo left how locals
unwind (Todo.Again e body ∷ todo) left Leaving.Normally locals = Unwound.Runs left locals (Todo.Again e body ∷ todo)
unwind (Todo.Again e body ∷ todo) left how locals = unwind todo left how locals
unwind (Todo.Within n silent ∷ todo) left how locals = unwind todo (left ++ n ∷ []) (past_timeout n silent how) locals
unwind (Todo.Afterwards before ∷ todo) left Leaving.Normally locals = unwind todo left before locals
unwind (Todo.Afterwards before ∷ todo) left how locals = unwind todo left how locals
unwind (Todo.Guard excepts finally ∷ todo) left (Leaving.Raising f) locals =
    elim (catching f excepts) [
      | None ↦ finally_first finally left (Leaving.Raising f) locals todo (unwind todo left (Leaving.Raising f) locals)
      | Some e ↦
          block_first e.body left (bind_if e.name (Value.Fault f) locals) (Todo.Guard [] finally ∷ todo)
          (finally_first finally left Leaving.Normally (bind_if e.name (Value.Fault f) locals) todo
          (unwind todo left Leaving.Normally (bind_if e.name (Value.Fault f) locals)))
    ]
unwind (Todo.Guard excepts finally ∷ todo) left how locals = finally_first finally left how locals todo (unwind todo left how locals)
