-- Integers and truth values through the operators.
use Rattle.std.proofs.Common.{◌≡◌, ap, refl, sym, subst, ◌∙◌, Bool, true, false, not, ℤ, List, Option, Some, None, if◌then◌else◌}
use Rattle.std.specs.Prelude.{IfSome}
use Rattle.gv_values.specs.declared.name.Name.{Name}
use Rattle.gv_values.specs.declared.value.Outcome.{Outcome}
use Rattle.gv_values.specs.declared.value.Value.{Value}
use Rattle.scenario_tree.specs.declared.tree.Binary.{Binary}
use Rattle.scenario_tree.specs.declared.tree.Expression.{Expression}
use Rattle.scenario_tree.specs.declared.tree.Scenario.{Scenario}
use Rattle.scenario_tree.specs.declared.tree.Unary.{Unary}
use Rattle.machine.specs.Bodies.{around}
use Rattle.machine.specs.Expressions.{Around, Look, and_then, binary, meaning, or_else, unary, with_value}
use Rattle.body_names.specs.declared.expression.FlatExpression.{FlatExpression}
use Rattle.body_names.specs.declared.expression.FlatExpression.TheVariants as F
use Rattle.body_names.specs.declared.expression.LocalSlot.{LocalSlot}
use Rattle.body_locals.specs.declared.locals.Bound.{Bound}
use Rattle.body_names.specs.Expressions.{expression_of}
use Rattle.body_locals.specs.Locals.{locals_of, value_of}
use Rattle.body_names.specs.Naming.{IsNaming}
use Rattle.body_names.proofs.Expressions.{and_stands, binary_stands, bool_stands, int_stands, local_stands, or_stands, unary_stands}
use Rattle.body_locals.proofs.Places.{value_by_name}
use Rattle.body_primitives.specs.declared.primitive.Primitive.{Primitive}
use Rattle.body_primitives.specs.Primitives.{Agrees, Means, MeansAs}
use Rattle.body_values.proofs.Meanings.{and_means, binary_means, bool_means, int_means, local_means, or_means, unary_means}

pub negated : (b : Bool) (look : Look) (o : Outcome) → Outcome.Value (Value.Bool b) ≡ o → Outcome.Value (Value.Bool (not b)) ≡ with_value o (unary Unary.Not look)
negated b look o h = rw (sym h) refl

pub of_ints : (op : Binary) (x y : ℤ) (r : Primitive) (o p : Outcome) → Agrees r (binary op (Value.Int x) (Value.Int y)) →
    Outcome.Value (Value.Int x) ≡ o → Outcome.Value (Value.Int y) ≡ p → Agrees r (with_value o (λ v. with_value p (binary op v)))
of_ints op x y r o p k h g =
    subst (λ (w : Outcome). Agrees r (with_value w (λ v. with_value p (binary op v)))) h
    (subst (λ (w : Outcome). Agrees r (with_value w (binary op (Value.Int x)))) g k)

pub both : (a b : Bool) (o p : Outcome) → Outcome.Value (Value.Bool a) ≡ o → Outcome.Value (Value.Bool b) ≡ p →
    Outcome.Value (Value.Bool (if a then b else false)) ≡ with_value o (λ v. and_then v p)
both true b o p h g = rw (sym h, sym g) refl
both false b o p h g = rw (sym h) refl

pub either : (a b : Bool) (o p : Outcome) → Outcome.Value (Value.Bool a) ≡ o → Outcome.Value (Value.Bool b) ≡ p →
    Outcome.Value (Value.Bool (if a then true else b)) ≡ with_value o (λ v. or_else v p)
either true b o p h g = rw (sym h) refl
either false b o p h g = rw (sym h, sym g) refl

-- ---- the same of the expression

-- what a form with numbers means
form_means : (names : List Name) (e : FlatExpression) (t : Expression) (a : Around) (o : Outcome) → expression_of names e ≡ t → meaning t a ≡ o → meaning (expression_of names e) a ≡ o
form_means names e t a o h k = ap (λ (x : Expression). meaning x a) h ∙ k

pub bool_meant : (names : List Name) (b : Bool) (a : Around) → meaning (expression_of names (F.Bool b)) a ≡ Outcome.Value (Value.Bool b)
bool_meant names b a = form_means names (F.Bool b) _ a _ (bool_stands names b) (bool_means b a)

pub int_meant : (names : List Name) (z : ℤ) (a : Around) → meaning (expression_of names (F.Int z)) a ≡ Outcome.Value (Value.Int z)
int_meant names z a = form_means names (F.Int z) _ a _ (int_stands names z) (int_means z a)

local_meant : (names : List Name) (slot : LocalSlot) (locals : List Bound) (s : Scenario) (look : Look) → IsNaming names →
    meaning (expression_of names (F.Local slot)) (around s look (locals_of names locals)) ≡ Outcome.Value (value_of slot.number locals)
local_meant names slot locals s look is =
    form_means names (F.Local slot) _ (around s look (locals_of names locals)) _ (local_stands names slot) (local_means _ (around s look (locals_of names locals)))
    ∙ ap Outcome.Value (value_by_name names slot.number locals is)

pub as_local : (r : Primitive) (slot : LocalSlot) (locals : List Bound) → Agrees r (Outcome.Value (value_of slot.number locals)) → MeansAs r (F.Local slot) locals
as_local r slot locals h = λ names is s look. subst (Agrees r) (sym (local_meant names slot locals s look is)) h

pub as_one : (r p : Primitive) (op : Unary) (e : FlatExpression) (locals : List Bound) → MeansAs p e locals →
    ((look : Look) (o : Outcome) → Agrees p o → Agrees r (with_value o (unary op look))) → MeansAs r (F.Unary op e) locals
as_one r p op e locals h k = λ names is s look.
    let a = around s look (locals_of names locals) in
    let x = expression_of names e in
    subst (Agrees r) (sym (form_means names (F.Unary op e) _ a _ (unary_stands names op e) (unary_means op x a))) (k look (meaning x a) (h names is s look))

pub as_two : (r p q : Primitive) (op : Binary) (e d : FlatExpression) (locals : List Bound) → MeansAs p e locals → MeansAs q d locals →
    ((o w : Outcome) → Agrees p o → Agrees q w → Agrees r (with_value o (λ v. with_value w (binary op v)))) → MeansAs r (F.Binary op e d) locals
as_two r p q op e d locals h g k = λ names is s look.
    let a = around s look (locals_of names locals) in
    let x = expression_of names e in
    let y = expression_of names d in
    subst (Agrees r) (sym (form_means names (F.Binary op e d) _ a _ (binary_stands names op e d) (binary_means op x y a)))
    (k (meaning x a) (meaning y a) (h names is s look) (g names is s look))

pub as_both : (r p q : Primitive) (e d : FlatExpression) (locals : List Bound) → MeansAs p e locals → MeansAs q d locals →
    ((o w : Outcome) → Agrees p o → Agrees q w → Agrees r (with_value o (λ v. and_then v w))) → MeansAs r (F.And e d) locals
as_both r p q e d locals h g k = λ names is s look.
    let a = around s look (locals_of names locals) in
    let x = expression_of names e in
    let y = expression_of names d in
    subst (Agrees r) (sym (form_means names (F.And e d) _ a _ (and_stands names e d) (and_means x y a)))
    (k (meaning x a) (meaning y a) (h names is s look) (g names is s look))

pub as_either : (r p q : Primitive) (e d : FlatExpression) (locals : List Bound) → MeansAs p e locals → MeansAs q d locals →
    ((o w : Outcome) → Agrees p o → Agrees q w → Agrees r (with_value o (λ v. or_else v w))) → MeansAs r (F.Or e d) locals
as_either r p q e d locals h g k = λ names is s look.
    let a = around s look (locals_of names locals) in
    let x = expression_of names e in
    let y = expression_of names d in
    subst (Agrees r) (sym (form_means names (F.Or e d) _ a _ (or_stands names e d) (or_means x y a)))
    (k (meaning x a) (meaning y a) (h names is s look) (g names is s look))

-- ---- plain integers

pub int_has : (e : FlatExpression) (locals : List Bound) (z m : ℤ) → e ≡ F.Int z → m ≡ z → Means e locals (Value.Int m)
int_has e locals z m is same = λ names naming s look.
    let a = around s look (locals_of names locals) in
    ap (λ (x : ℤ). Outcome.Value (Value.Int x)) same ∙ sym (int_meant names z a) ∙ ap (λ (x : FlatExpression). meaning (expression_of names x) a) (sym is)

-- the local has this integer
local_has : (slot : LocalSlot) (locals : List Bound) (z : ℤ) → Value.Int z ≡ value_of slot.number locals → Means (F.Local slot) locals (Value.Int z)
local_has slot locals z h = λ names naming s look. ap Outcome.Value h ∙ sym (local_meant names slot locals s look naming)

-- what was told of the local
pub integer_has : (e : FlatExpression) (slot : LocalSlot) (locals : List Bound) (r : Option ℤ) → e ≡ F.Local slot → IfSome r (λ z. Value.Int z ≡ value_of slot.number locals) →
    IfSome r (λ z. Means e locals (Value.Int z))
integer_has e slot locals (Some z) is h = subst (λ (x : FlatExpression). Means x locals (Value.Int z)) (sym is) (local_has slot locals z h)
integer_has e slot locals None is h = tt

-- so it is with the value that was found
pub value_has : (e : FlatExpression) (slot : LocalSlot) (locals : List Bound) (v : Value) (r : Option ℤ) → e ≡ F.Local slot → v ≡ value_of slot.number locals → IfSome r (λ z. Value.Int z ≡ v) →
    IfSome r (λ z. Means e locals (Value.Int z))
value_has e slot locals v (Some z) is same h = integer_has e slot locals (Some z) is (h ∙ same)
value_has e slot locals v None is same h = tt

has_same : (e : FlatExpression) (locals : List Bound) (x m : ℤ) → m ≡ x → Means e locals (Value.Int x) → Means e locals (Value.Int m)
has_same e locals x m i h = subst (λ (z : ℤ). Means e locals (Value.Int z)) (sym i) h

-- an operation on two operands that have these integers
of_plain : (op : Binary) (e d : FlatExpression) (locals : List Bound) (x y : ℤ) (v : Value) → Means e locals (Value.Int x) → Means d locals (Value.Int y) →
    Outcome.Value v ≡ binary op (Value.Int x) (Value.Int y) → Means (F.Binary op e d) locals v
of_plain op e d locals x y v h g k = λ names is s look.
    let a = around s look (locals_of names locals) in
    let first = expression_of names e in
    let second = expression_of names d in
    subst (λ (o : Outcome). Outcome.Value v ≡ o) (sym (form_means names (F.Binary op e d) _ a _ (binary_stands names op e d) (binary_means op first second a)))
    (subst (λ (o : Outcome). Outcome.Value v ≡ with_value o (λ w. with_value (meaning second a) (binary op w))) (h names is s look)
    (subst (λ (o : Outcome). Outcome.Value v ≡ with_value o (binary op (Value.Int x))) (g names is s look) k))

pub integer_of_plain : (op : Binary) (e d t : FlatExpression) (locals : List Bound) (x y m n : ℤ) (r : Option ℤ) → t ≡ F.Binary op e d → Means e locals (Value.Int x) →
    Means d locals (Value.Int y) → m ≡ x → n ≡ y → IfSome r (λ z. Outcome.Value (Value.Int z) ≡ binary op (Value.Int m) (Value.Int n)) →
    IfSome r (λ z. Means t locals (Value.Int z))
integer_of_plain op e d t locals x y m n (Some z) is h g i j k = subst (λ (w : FlatExpression). Means w locals (Value.Int z)) (sym is)
    (of_plain op e d locals m n (Value.Int z) (has_same e locals x m i h) (has_same d locals y n j g) k)
integer_of_plain op e d t locals x y m n None is h g i j k = tt

pub truth_of_plain : (op : Binary) (e d t : FlatExpression) (locals : List Bound) (x y m n : ℤ) (r : Option Bool) → t ≡ F.Binary op e d → Means e locals (Value.Int x) →
    Means d locals (Value.Int y) → m ≡ x → n ≡ y → IfSome r (λ b. Outcome.Value (Value.Bool b) ≡ binary op (Value.Int m) (Value.Int n)) →
    IfSome r (λ b. Means t locals (Value.Bool b))
truth_of_plain op e d t locals x y m n (Some b) is h g i j k = subst (λ (w : FlatExpression). Means w locals (Value.Bool b)) (sym is)
    (of_plain op e d locals m n (Value.Bool b) (has_same e locals x m i h) (has_same d locals y n j g) k)
truth_of_plain op e d t locals x y m n None is h g i j k = tt
