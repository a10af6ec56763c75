-- What stands on a line, of parts that were made one after another.
use Rattle.std.proofs.Common.{◌≡◌, ap, subst, ◌∙◌, ℕ, List, [], ◌∷◌, ◌++◌, Option, Result, Ok, Err, IfOk, option_map}
use Rattle.gv_values.specs.declared.name.Name.{Name}
use Rattle.scenario_tree.specs.declared.tree.Action.{Action}
use Rattle.scenario_tree.specs.declared.tree.Action.TheVariants as A
use Rattle.scenario_tree.specs.declared.tree.Except.{Except, out-Except, roll-Except, roll-out-Except}
use Rattle.scenario_tree.specs.declared.tree.Expression.{Expression}
use Rattle.scenario_tree.specs.declared.tree.Giving.{Giving}
use Rattle.scenario_tree.specs.declared.tree.Statement.{Statement}
use Rattle.body_names.specs.declared.expression.FlatExpression.{FlatExpression}
use Rattle.body_names.specs.declared.expression.LocalSlot.{LocalSlot}
use Rattle.body_names.specs.declared.giving.FlatGiving.{FlatGiving}
use Rattle.body_names.specs.Expressions.{expression_of}
use Rattle.body_names.specs.Statements.{giving_of}
use Rattle.body_blocks.specs.declared.statement.FlatAction.{FlatAction}
use Rattle.body_blocks.specs.Making.{IsPushed}
use Rattle.body_blocks.specs.Trees.{Coded, Grows, action_of, block_at, except_of, joined, name_if}
use Rattle.body_blocks.proofs.Growing.{Taken, later, taken_more}

-- the expression, the name and the block, whatever is made after them
abbrev pub IsTest : Coded → FlatExpression → Expression → Type 0
IsTest c e x = (more : Coded) → expression_of (joined c more).names e ≡ x

abbrev pub IsTarget : Coded → Option LocalSlot → Option Name → Type 0
IsTarget c slot x = (more : Coded) → name_if (joined c more) slot ≡ x

abbrev pub IsBlock : Coded → ℕ → List Statement → Type 0
IsBlock c n ss = (more : Coded) → block_at n (joined c more) ≡ ss

pub block_later : (c d : Coded) (n : ℕ) (ss : List Statement) → Grows c d → IsBlock c n ss → IsBlock d n ss
block_later c d n ss g h = later (λ (b : Coded) i. block_at i b) c d n ss g h

pub giving_stands : (c d : Coded) (slot : Option LocalSlot) (g : FlatGiving) (x : Option Name) (y : Giving) → Grows c d → IsTarget c slot x →
    ((more : Coded) → giving_of (joined d more).names g ≡ y) → (more : Coded) → A.Giving (name_if (joined d more) slot) (giving_of (joined d more).names g) ≡ A.Giving x y
giving_stands c d slot g x y grow h k more =
    ap (λ z. A.Giving z (giving_of (joined d more).names g)) (later name_if c d slot x grow h more) ∙ ap (A.Giving x) (k more)

pub if_stands : (c d : Coded) (e : FlatExpression) (y : ℕ) (n : Option ℕ) (x : Expression) (ss : List Statement) → Grows c d → IsBlock c y ss → IsTest d e x → (more : Coded) →
    A.If (expression_of (joined d more).names e) (block_at y (joined d more)) (option_map (λ i. block_at i (joined d more)) n) ≡ A.If x ss (option_map (λ i. block_at i (joined d more)) n)
if_stands c d e y n x ss g h k more =
    ap (λ z. A.If z (block_at y (joined d more)) (option_map (λ i. block_at i (joined d more)) n)) (k more)
    ∙ ap (λ z. A.If x z (option_map (λ i. block_at i (joined d more)) n)) (block_later c d y ss g h more)

pub while_stands : (c d : Coded) (e : FlatExpression) (n : ℕ) (x : Expression) (ss : List Statement) → Grows c d → IsBlock c n ss → IsTest d e x → (more : Coded) →
    A.While (expression_of (joined d more).names e) (block_at n (joined d more)) ≡ A.While x ss
while_stands c d e n x ss g h k more = ap (λ z. A.While z (block_at n (joined d more))) (k more) ∙ ap (A.While x) (block_later c d n ss g h more)

-- what an action stands for with blocks made before it, is what these stand for
pub if_action_stands : {E : Type 0} (r : Result FlatAction E) (f : Coded → Action) (c d : Coded) (x : Action) → ((more : Coded) → f (joined c more) ≡ x) → IfOk r (λ _. Grows c d) →
    IfOk r (λ a. (more : Coded) → action_of (joined d more) a ≡ f (joined d more)) → IfOk r (λ a. (more : Coded) → action_of (joined d more) a ≡ x)
if_action_stands (Ok a) f c d x same g h = λ more. h more ∙ later (λ (e : Coded) (_ : ℕ). f e) c d 0 x g same more
if_action_stands (Err e) f c d x same g h = tt

-- what was shared was made
pub was_made : {T E : Type 0} (r : Result T E) (x : T) (P : T → Type 0) → r ≡ Ok x → IfOk r P → P x
was_made {T} {E} r x P e h = subst (λ (s : Result T E). IfOk s P) e h

-- one more is taken, and what was made of it is put behind the others
pub made_more : {X Y E : Type 0} (f : Coded → X → Y) (c d : Coded) (old new : List Y) (xs done : List X) (r : Result X E) (y : Y) (whole : List Y) → Taken f c old xs whole →
    IfOk r (λ _. Grows c d) → IfOk r (λ x. (more : Coded) → f (joined d more) x ≡ y) → old ≡ new ++ y ∷ [] → IsPushed r xs done → Taken f d new done whole
made_more f c d old new xs done r y whole taken g h e p =
    taken_more f c d old new xs p.0 y whole taken (was_made r p.0 (λ _. Grows c d) p.1 g) (was_made r p.0 (λ x. (more : Coded) → f (joined d more) x ≡ y) p.1 h) e done p.2

pub except_stands : (c d : Coded) (e : Except) (slot : Option LocalSlot) (n : ℕ) → Grows c d → IsTarget c slot (out-Except e).name → IsBlock d n (out-Except e).body → (more : Coded) →
    except_of (joined d more) (record { line = (out-Except e).line; class = (out-Except e).class; name = slot; body = n }) ≡ e
except_stands c d e slot n g h k more =
    ap (λ z. roll-Except (record { line = (out-Except e).line; class = (out-Except e).class; name = z; body = block_at n (joined d more) })) (later name_if c d slot (out-Except e).name g h more)
    ∙ ap (λ z. roll-Except (record { line = (out-Except e).line; class = (out-Except e).class; name = (out-Except e).name; body = z })) (k more)
    ∙ roll-out-Except e
