-- Left outwards, a body stands at a move or is out.
use Rattle.std.proofs.Common.{◌≡◌, subst, ℕ, List, [], ◌∷◌, ◌++◌, Option, Some, None}
use Rattle.gv_values.specs.declared.fault.FaultKind.{FaultKind}
use Rattle.gv_values.specs.declared.value.Value.{Value}
use Rattle.scenario_tree.specs.declared.tree.Statement.{Statement}
use Rattle.machine.specs.declared.state.Leaving.{Leaving}
use Rattle.machine.specs.declared.state.Local.{Local}
use Rattle.machine.specs.declared.state.Todo.{Todo}
use Rattle.machine.specs.Unwinding.{Unwound, unwind, Caught, catching, bind_if, block_first, finally_first, past_timeout}
use Rattle.body_frames.specs.Steady.{HasMove}

finally_moves : (ss : List Statement) (left : List ℕ) (how : Leaving) (locals : List Local) (todo : List Todo) (otherwise : Unwound) →
    HasMove otherwise → HasMove (finally_first ss left how locals todo otherwise)
finally_moves [] left how locals todo otherwise h = h
finally_moves (s ∷ ss) left how locals todo otherwise h = tt

block_moves : (ss : List Statement) (left : List ℕ) (locals : List Local) (todo : List Todo) (otherwise : Unwound) →
    HasMove otherwise → HasMove (block_first ss left locals todo otherwise)
block_moves [] left locals todo otherwise h = h
block_moves (s ∷ ss) left locals todo otherwise h = tt

guard_moves : (caught : Option Caught) (finally : List Statement) (left : List ℕ) (f : FaultKind) (locals : List Local) (todo : List Todo) →
    ((how : Leaving) (ls : List Local) → HasMove (unwind todo left how ls)) →
    HasMove (elim caught [
      | None ↦ finally_first finally left (Leaving.Raising f) locals todo (unwind todo left (Leaving.Raising f) locals)
      | Some e ↦
          block_first e.body left (bind_if e.name (Value.Fault f) locals) (Todo.Guard [] finally ∷ todo)
          (finally_first finally left Leaving.Normally (bind_if e.name (Value.Fault f) locals) todo
          (unwind todo left Leaving.Normally (bind_if e.name (Value.Fault f) locals)))
    ])
guard_moves None finally left f locals todo h =
    finally_moves finally left (Leaving.Raising f) locals todo (unwind todo left (Leaving.Raising f) locals) (h (Leaving.Raising f) locals)
guard_moves (Some e) finally left f locals todo h =
    let ls = bind_if e.name (Value.Fault f) locals in
    let further = unwind todo left Leaving.Normally ls in
    block_moves e.body left ls (Todo.Guard [] finally ∷ todo) (finally_first finally left Leaving.Normally ls todo further)
    (finally_moves finally left Leaving.Normally ls todo further (h Leaving.Normally ls))

pub unwound_moves : (todo : List Todo) (left : List ℕ) (how : Leaving) (locals : List Local) → HasMove (unwind todo left how locals)
unwound_moves [] left how locals = tt
unwound_moves (Todo.Statements [] ∷ todo) left how locals = unwound_moves todo left how locals
unwound_moves (Todo.Statements (s ∷ ss) ∷ todo) left Leaving.Normally locals = tt
unwound_moves (Todo.Statements (s ∷ ss) ∷ todo) left (Leaving.Raising f) locals = unwound_moves todo left (Leaving.Raising f) locals
unwound_moves (Todo.Statements (s ∷ ss) ∷ todo) left (Leaving.Returning v) locals = unwound_moves todo left (Leaving.Returning v) locals
unwound_moves (Todo.Again e body ∷ todo) left Leaving.Normally locals = tt
unwound_moves (Todo.Again e body ∷ todo) left (Leaving.Raising f) locals = unwound_moves todo left (Leaving.Raising f) locals
unwound_moves (Todo.Again e body ∷ todo) left (Leaving.Returning v) locals = unwound_moves todo left (Leaving.Returning v) locals
unwound_moves (Todo.Within n silent ∷ todo) left how locals = unwound_moves todo (left ++ n ∷ []) (past_timeout n silent how) locals
unwound_moves (Todo.Afterwards before ∷ todo) left Leaving.Normally locals = unwound_moves todo left before locals
unwound_moves (Todo.Afterwards before ∷ todo) left (Leaving.Raising f) locals = unwound_moves todo left (Leaving.Raising f) locals
unwound_moves (Todo.Afterwards before ∷ todo) left (Leaving.Returning v) locals = unwound_moves todo left (Leaving.Returning v) locals
unwound_moves (Todo.Guard excepts finally ∷ todo) left (Leaving.Raising f) locals =
    guard_moves (catching f excepts) finally left f locals todo (λ how ls. unwound_moves todo left how ls)
unwound_moves (Todo.Guard excepts finally ∷ todo) left Leaving.Normally locals =
    finally_moves finally left Leaving.Normally locals todo (unwind todo left Leaving.Normally locals) (unwound_moves todo left Leaving.Normally locals)
unwound_moves (Todo.Guard excepts finally ∷ todo) left (Leaving.Returning v) locals =
    finally_moves finally left (Leaving.Returning v) locals todo (unwind todo left (Leaving.Returning v) locals) (unwound_moves todo left (Leaving.Returning v) locals)

-- the same of what the code came to
pub moves_as : (u : Unwound) (todo : List Todo) (left : List ℕ) (how : Leaving) (locals : List Local) → unwind todo left how locals ≡ u → HasMove u
moves_as u todo left how locals e = subst HasMove e (unwound_moves todo left how locals)
