-- How entries are left.
use Rattle.std.proofs.Common.{◌≡◌, refl, ℕ, true, false, List, [], ◌∷◌}
use Rattle.gv_values.specs.declared.fault.FaultKind.{FaultKind}
use Rattle.gv_values.specs.declared.value.Value.{Value}
use Rattle.scenario_tree.specs.declared.tree.Statement.{Statement}
use Rattle.machine.specs.declared.state.Leaving.{Leaving}
use Rattle.machine.specs.declared.state.Local.{Local}
use Rattle.machine.specs.declared.state.Todo.{Todo}
use Rattle.machine.specs.Unwinding.{Unwound, block_first, finally_first, unwind}
use Rattle.body_entries.specs.Entries.{begins}

-- ---- the rest of a block

pub rest_runs : (ss : List Statement) (todo : List Todo) (left : List ℕ) (locals : List Local) → begins ss ≡ true →
    unwind (Todo.Statements ss ∷ todo) left Leaving.Normally locals ≡ Unwound.Runs left locals (Todo.Statements ss ∷ todo)
rest_runs [] todo left locals h = cc
rest_runs (s ∷ ss) todo left locals h = refl

pub rest_ends : (ss : List Statement) (todo : List Todo) (left : List ℕ) (locals : List Local) → begins ss ≡ false →
    unwind (Todo.Statements ss ∷ todo) left Leaving.Normally locals ≡ unwind todo left Leaving.Normally locals
rest_ends [] todo left locals h = refl
rest_ends (s ∷ ss) todo left locals h = cc

pub rest_raises : (ss : List Statement) (todo : List Todo) (left : List ℕ) (f : FaultKind) (locals : List Local) →
    unwind (Todo.Statements ss ∷ todo) left (Leaving.Raising f) locals ≡ unwind todo left (Leaving.Raising f) locals
rest_raises [] todo left f locals = refl
rest_raises (s ∷ ss) todo left f locals = refl

pub rest_returns : (ss : List Statement) (todo : List Todo) (left : List ℕ) (v : Value) (locals : List Local) →
    unwind (Todo.Statements ss ∷ todo) left (Leaving.Returning v) locals ≡ unwind todo left (Leaving.Returning v) locals
rest_returns [] todo left v locals = refl
rest_returns (s ∷ ss) todo left v locals = refl

-- ---- blocks that run first

pub finally_runs : (ss : List Statement) (left : List ℕ) (how : Leaving) (locals : List Local) (todo : List Todo) (otherwise : Unwound) → begins ss ≡ true →
    finally_first ss left how locals todo otherwise ≡ Unwound.Runs left locals (Todo.Statements ss ∷ Todo.Afterwards how ∷ todo)
finally_runs [] left how locals todo otherwise h = cc
finally_runs (s ∷ ss) left how locals todo otherwise h = refl

pub finally_ends : (ss : List Statement) (left : List ℕ) (how : Leaving) (locals : List Local) (todo : List Todo) (otherwise : Unwound) → begins ss ≡ false →
    finally_first ss left how locals todo otherwise ≡ otherwise
finally_ends [] left how locals todo otherwise h = refl
finally_ends (s ∷ ss) left how locals todo otherwise h = cc

pub block_runs : (ss : List Statement) (left : List ℕ) (locals : List Local) (todo : List Todo) (otherwise : Unwound) → begins ss ≡ true →
    block_first ss left locals todo otherwise ≡ Unwound.Runs left locals (Todo.Statements ss ∷ todo)
block_runs [] left locals todo otherwise h = cc
block_runs (s ∷ ss) left locals todo otherwise h = refl

pub block_ends : (ss : List Statement) (left : List ℕ) (locals : List Local) (todo : List Todo) (otherwise : Unwound) → begins ss ≡ false →
    block_first ss left locals todo otherwise ≡ otherwise
block_ends [] left locals todo otherwise h = refl
block_ends (s ∷ ss) left locals todo otherwise h = cc
