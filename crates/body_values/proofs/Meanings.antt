-- The meaning of each form, from those of its operands.
use Rattle.std.proofs.Common.{◌≡◌, ap, sym, ◌∙◌, Bool, List, Option, Some, None, ℕ, ℤ, map, unwrap_or}
use Rattle.gv_values.specs.declared.fault.FaultKind.{FaultKind}
use Rattle.gv_values.specs.declared.name.Name.{Name}
use Rattle.gv_values.specs.declared.value.Value.{Value}
use Rattle.gv_values.specs.declared.value.Outcome.{Outcome}
use Rattle.scenario_tree.specs.declared.tree.Unary.{Unary}
use Rattle.scenario_tree.specs.declared.tree.Binary.{Binary}
use Rattle.scenario_tree.specs.declared.tree.Query.{Query}
use Rattle.scenario_tree.specs.declared.tree.Expression.TheVariants as E
use Rattle.scenario_tree.specs.declared.tree.Expression.{Expression, out-Expression, map-Expression, map_is-Expression}
use Rattle.scenario_tree.specs.declared.tree.Expression.TheBlock.{lays-Expression, the_family, the_fold, view-Expression}
use Rattle.scenario_tree.specs.declared.tree.Expression.TheFolds.{family, steps}
use Rattle.scenario_tree.specs.declared.tree.Expression.TheOpen.{Expression-F}
use Rattle.body_names.specs.declared.expression.FlatExpression.{FlatExpression}
use Rattle.body_names.specs.declared.expression.FlatExpression.TheVariants as F
use Rattle.body_names.specs.declared.expression.LocalSlot.{LocalSlot}
use Rattle.body_names.specs.Expressions.{expression_of}
use Rattle.body_names.specs.Naming.{name_of}
use Rattle.body_names.proofs.Expressions.{and_stands, binary_stands, bool_stands, current_stands, fault_stands, int_stands, list_stands, local_stands, nothing_stands, or_stands, query_stands, unary_stands}
use Rattle.std.specs.Prelude.{IfSome}
use Rattle.scenario_tree.specs.declared.tree.Scenario.{Scenario}
use Rattle.machine.specs.Bodies.{around}
use Rattle.machine.specs.declared.state.Local.{Local}
use Rattle.machine.specs.Expressions.{Look, meaning, Meaning, meaning_step, value_of_local, Around, with_value, unary, binary, and_then, or_else, listed, query, object_number}
use Rattle.machine.specs.BodyMoves.{values}

meaning_out : (e : Expression) → meaning e ≡ meaning_step (map-Expression Expression Meaning meaning (out-Expression e))
unfolding out-Expression denote.Hole.Carrier.out
meaning_out e =
    lays-Expression (family Meaning) (steps Meaning meaning_step) e
    ∙ ap meaning_step (map_is-Expression the_family (family Meaning) (the_fold (family Meaning) (steps Meaning meaning_step)) (view-Expression e))

one_level : (e : Expression) (layer : Expression-F Expression) (a : Around) → out-Expression e ≡ layer → meaning e a ≡ meaning_step (map-Expression Expression Meaning meaning layer) a
one_level e layer a h = ap (λ (m : Meaning). m a) (meaning_out e) ∙ ap (λ (x : Expression-F Expression). meaning_step (map-Expression Expression Meaning meaning x) a) h

pub nothing_means : (a : Around) → meaning E.Nothing a ≡ Outcome.Value Value.Nothing
nothing_means a = one_level E.Nothing Expression-F.Nothing a E.outs-Nothing

pub bool_means : (b : Bool) (a : Around) → meaning (E.Bool b) a ≡ Outcome.Value (Value.Bool b)
bool_means b a = one_level (E.Bool b) (Expression-F.Bool b) a (E.outs-Bool b)

pub int_means : (z : ℤ) (a : Around) → meaning (E.Int z) a ≡ Outcome.Value (Value.Int z)
int_means z a = one_level (E.Int z) (Expression-F.Int z) a (E.outs-Int z)

pub local_means : (x : List ℕ) (a : Around) → meaning (E.Local x) a ≡ Outcome.Value (value_of_local x a.locals)
local_means x a = one_level (E.Local x) (Expression-F.Local x) a (E.outs-Local x)

pub current_means : (a : Around) → meaning E.Current a ≡ Outcome.Value (Value.Greenlet a.look.current)
current_means a = one_level E.Current Expression-F.Current a E.outs-Current

pub fault_means : (f : FaultKind) (a : Around) → meaning (E.Fault f) a ≡ Outcome.Value (Value.Fault f)
fault_means f a = one_level (E.Fault f) (Expression-F.Fault f) a (E.outs-Fault f)

pub unary_means : (op : Unary) (e : Expression) (a : Around) → meaning (E.Unary op e) a ≡ with_value (meaning e a) (unary op a.look)
unary_means op e a = one_level (E.Unary op e) (Expression-F.Unary op e) a (E.outs-Unary op e)

pub binary_means : (op : Binary) (e d : Expression) (a : Around) → meaning (E.Binary op e d) a ≡ with_value (meaning e a) (λ x. with_value (meaning d a) (binary op x))
binary_means op e d a = one_level (E.Binary op e d) (Expression-F.Binary op e d) a (E.outs-Binary op e d)

pub and_means : (e d : Expression) (a : Around) → meaning (E.And e d) a ≡ with_value (meaning e a) (λ x. and_then x (meaning d a))
and_means e d a = one_level (E.And e d) (Expression-F.And e d) a (E.outs-And e d)

pub or_means : (e d : Expression) (a : Around) → meaning (E.Or e d) a ≡ with_value (meaning e a) (λ x. or_else x (meaning d a))
or_means e d a = one_level (E.Or e d) (Expression-F.Or e d) a (E.outs-Or e d)

pub list_means : (es : List Expression) (a : Around) → meaning (E.List es) a ≡ listed (values es a)
list_means es a = one_level (E.List es) (Expression-F.List es) a (E.outs-List es)

pub query_means : (q : Query) (x : List ℕ) (a : Around) → meaning (E.Query q x) a ≡ Outcome.Value (query q a.look (object_number x a.scenario.objects))
query_means q x a = one_level (E.Query q x) (Expression-F.Query q x) a (E.outs-Query q x)

-- ---- the same, where the first operand was evaluated before

pub one_means : (op : Unary) (e : Expression) (a : Around) (x : Outcome) → x ≡ meaning e a → with_value x (unary op a.look) ≡ meaning (E.Unary op e) a
one_means op e a x h = rw h (sym (unary_means op e a))

pub two_mean : (op : Binary) (e d : Expression) (a : Around) (x : Outcome) → x ≡ meaning e a →
    with_value x (λ v. with_value (meaning d a) (binary op v)) ≡ meaning (E.Binary op e d) a
two_mean op e d a x h = rw h (sym (binary_means op e d a))

pub both_mean : (e d : Expression) (a : Around) (x : Outcome) → x ≡ meaning e a → with_value x (λ v. and_then v (meaning d a)) ≡ meaning (E.And e d) a
both_mean e d a x h = rw h (sym (and_means e d a))

pub either_means : (e d : Expression) (a : Around) (x : Outcome) → x ≡ meaning e a → with_value x (λ v. or_else v (meaning d a)) ≡ meaning (E.Or e d) a
either_means e d a x h = rw h (sym (or_means e d a))

-- ---- the same with numbers in place of names

means_as : (e d : Expression) (a : Around) (o : Outcome) → e ≡ d → meaning d a ≡ o → o ≡ meaning e a
means_as e d a o same h = sym h ∙ ap (λ (x : Expression). meaning x a) (sym same)

pub flat_nothing : (names : List Name) (a : Around) → Outcome.Value Value.Nothing ≡ meaning (expression_of names F.Nothing) a
flat_nothing names a = means_as (expression_of names F.Nothing) E.Nothing a (Outcome.Value Value.Nothing) (nothing_stands names) (nothing_means a)

pub flat_bool : (names : List Name) (b : Bool) (a : Around) → Outcome.Value (Value.Bool b) ≡ meaning (expression_of names (F.Bool b)) a
flat_bool names b a = means_as (expression_of names (F.Bool b)) (E.Bool b) a (Outcome.Value (Value.Bool b)) (bool_stands names b) (bool_means b a)

pub flat_int : (names : List Name) (z : ℤ) (a : Around) → Outcome.Value (Value.Int z) ≡ meaning (expression_of names (F.Int z)) a
flat_int names z a = means_as (expression_of names (F.Int z)) (E.Int z) a (Outcome.Value (Value.Int z)) (int_stands names z) (int_means z a)

pub flat_local : (names : List Name) (slot : LocalSlot) (a : Around) (v : Value) → v ≡ value_of_local (name_of names slot.number) a.locals →
    Outcome.Value v ≡ meaning (expression_of names (F.Local slot)) a
flat_local names slot a v h =
    ap Outcome.Value h
    ∙ means_as (expression_of names (F.Local slot)) (E.Local (name_of names slot.number)) a (Outcome.Value (value_of_local (name_of names slot.number) a.locals)) (local_stands names slot)
    (local_means (name_of names slot.number) a)

pub flat_current : (names : List Name) (a : Around) (g : ℕ) → g ≡ a.look.current → Outcome.Value (Value.Greenlet g) ≡ meaning (expression_of names F.Current) a
flat_current names a g h =
    ap (λ n. Outcome.Value (Value.Greenlet n)) h
    ∙ means_as (expression_of names F.Current) E.Current a (Outcome.Value (Value.Greenlet a.look.current)) (current_stands names) (current_means a)

pub flat_fault : (names : List Name) (f : FaultKind) (a : Around) → Outcome.Value (Value.Fault f) ≡ meaning (expression_of names (F.Fault f)) a
flat_fault names f a = means_as (expression_of names (F.Fault f)) (E.Fault f) a (Outcome.Value (Value.Fault f)) (fault_stands names f) (fault_means f a)

pub flat_list : (names : List Name) (es : List FlatExpression) (a : Around) (o : Outcome) → o ≡ listed (values (map (expression_of names) es) a) →
    o ≡ meaning (expression_of names (F.List es)) a
flat_list names es a o h =
    h ∙ means_as (expression_of names (F.List es)) (E.List (map (expression_of names) es)) a (listed (values (map (expression_of names) es) a)) (list_stands names es)
    (list_means (map (expression_of names) es) a)

pub flat_query : (names : List Name) (q : Query) (n : ℕ) (a : Around) (v : Value) (k : ℕ) → v ≡ query q a.look k → k ≡ object_number (name_of names n) a.scenario.objects →
    Outcome.Value v ≡ meaning (expression_of names (F.Query q n)) a
flat_query names q n a v k h same =
    ap Outcome.Value (h ∙ ap (query q a.look) same)
    ∙ means_as (expression_of names (F.Query q n)) (E.Query q (name_of names n)) a (Outcome.Value (query q a.look (object_number (name_of names n) a.scenario.objects)))
    (query_stands names q n) (query_means q (name_of names n) a)

pub flat_one : (names : List Name) (op : Unary) (e : FlatExpression) (a : Around) (x : Outcome) → x ≡ meaning (expression_of names e) a →
    with_value x (unary op a.look) ≡ meaning (expression_of names (F.Unary op e)) a
flat_one names op e a x h = one_means op (expression_of names e) a x h ∙ ap (λ (z : Expression). meaning z a) (sym (unary_stands names op e))

pub flat_two : (names : List Name) (op : Binary) (e d : FlatExpression) (a : Around) (x : Outcome) → x ≡ meaning (expression_of names e) a →
    with_value x (λ v. with_value (meaning (expression_of names d) a) (binary op v)) ≡ meaning (expression_of names (F.Binary op e d)) a
flat_two names op e d a x h =
    two_mean op (expression_of names e) (expression_of names d) a x h ∙ ap (λ (z : Expression). meaning z a) (sym (binary_stands names op e d))

pub flat_both : (names : List Name) (e d : FlatExpression) (a : Around) (x : Outcome) → x ≡ meaning (expression_of names e) a →
    with_value x (λ v. and_then v (meaning (expression_of names d) a)) ≡ meaning (expression_of names (F.And e d)) a
flat_both names e d a x h = both_mean (expression_of names e) (expression_of names d) a x h ∙ ap (λ (z : Expression). meaning z a) (sym (and_stands names e d))

pub flat_either : (names : List Name) (e d : FlatExpression) (a : Around) (x : Outcome) → x ≡ meaning (expression_of names e) a →
    with_value x (λ v. or_else v (meaning (expression_of names d) a)) ≡ meaning (expression_of names (F.Or e d)) a
flat_either names e d a x h = either_means (expression_of names e) (expression_of names d) a x h ∙ ap (λ (z : Expression). meaning z a) (sym (or_stands names e d))

-- a local that is read where it stands
pub local_found : (names : List Name) (slot : LocalSlot) (locals : List Local) (o : Option Value) (e : FlatExpression) → e ≡ F.Local slot →
    unwrap_or o Value.Nothing ≡ value_of_local (name_of names slot.number) locals →
    IfSome o (λ v. (s : Scenario) (look : Look) → Outcome.Value v ≡ meaning (expression_of names e) (around s look locals))
local_found names slot locals None e same h = tt
local_found names slot locals (Some v) e same h = λ s look.
    flat_local names slot (around s look locals) v h ∙ ap (λ (x : FlatExpression). meaning (expression_of names x) (around s look locals)) (sym same)
