-- What an expression of integers and truth values means. Nothing is said of the others.
use Rattle.std.specs.Prelude.{◌≡◌, ℕ, Bool, true, false, List, ⊤}
use Rattle.gv_values.specs.declared.name.Name.{Name}
use Rattle.gv_values.specs.declared.value.Outcome.{Outcome}
use Rattle.gv_values.specs.declared.value.Value.{Value}
use Rattle.scenario_tree.specs.declared.tree.Scenario.{Scenario}
use Rattle.machine.specs.Bodies.{around}
use Rattle.machine.specs.Expressions.{Look, meaning}
use Rattle.body_names.specs.declared.expression.FlatExpression.{FlatExpression}
use Rattle.body_locals.specs.declared.locals.Bound.{Bound}
use Rattle.body_names.specs.Expressions.{expression_of}
use Rattle.body_locals.specs.Locals.{bind, locals_of}
use Rattle.body_names.specs.Naming.{IsNaming}
use Rattle.body_primitives.specs.declared.primitive.Primitive.{Primitive}

-- where the locals are these, the expression has this value, whatever the names, the scenario and the hub are
abbrev pub Means : FlatExpression → List Bound → Value → Type 0
Means e locals v = (names : List Name) → IsNaming names → (s : Scenario) (look : Look) → Outcome.Value v ≡ meaning (expression_of names e) (around s look (locals_of names locals))

-- the outcome is the integer or the truth value
abbrev pub Agrees : Primitive → Outcome → Type 0
Agrees (Primitive.Int z) o = Outcome.Value (Value.Int z) ≡ o
Agrees (Primitive.Bool b) o = Outcome.Value (Value.Bool b) ≡ o
Agrees Primitive.Other o = ⊤

-- so does what the expression means
abbrev pub MeansAs : Primitive → FlatExpression → List Bound → Type 0
MeansAs p e locals = (names : List Name) → IsNaming names → (s : Scenario) (look : Look) → Agrees p (meaning (expression_of names e) (around s look (locals_of names locals)))

-- the local of this number took the value of the expression, or nothing was done
abbrev pub IsBound : Bool → ℕ → FlatExpression → List Bound → List Bound → Type 0
IsBound true n e old new = (v : Value) × Means e old v × (new ≡ bind n v old)
IsBound false n e old new = new ≡ old
