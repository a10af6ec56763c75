-- What each form of an expression with numbers stands for, from what its operands stand for.
use Rattle.std.proofs.Common.{◌≡◌, ap, ◌∙◌, ◌++◌, Bool, List, ℕ, ℤ, map}
use Rattle.std.proofs.lemmas.List.{append_assoc}
use Rattle.gv_values.specs.declared.fault.FaultKind.{FaultKind}
use Rattle.gv_values.specs.declared.name.Name.{Name}
use Rattle.scenario_tree.specs.declared.tree.Binary.{Binary}
use Rattle.scenario_tree.specs.declared.tree.Expression.{Expression}
use Rattle.scenario_tree.specs.declared.tree.Expression.TheVariants as E
use Rattle.scenario_tree.specs.declared.tree.Query.{Query}
use Rattle.scenario_tree.specs.declared.tree.Unary.{Unary}
use Rattle.body_names.specs.declared.expression.FlatExpression.{FlatExpression, out-FlatExpression, map-FlatExpression, map_is-FlatExpression}
use Rattle.body_names.specs.declared.expression.FlatExpression.TheBlock.{lays-FlatExpression, the_family, the_fold, view-FlatExpression}
use Rattle.body_names.specs.declared.expression.FlatExpression.TheFolds.{family, steps}
use Rattle.body_names.specs.declared.expression.FlatExpression.TheOpen.{FlatExpression-F}
use Rattle.body_names.specs.declared.expression.FlatExpression.TheVariants as F
use Rattle.body_names.specs.declared.expression.LocalSlot.{LocalSlot}
use Rattle.body_names.specs.Expressions.{expression_of, expression_step}
use Rattle.body_names.specs.Naming.{Grows, name_of}

stands_out : (names : List Name) (e : FlatExpression) → expression_of names e ≡ expression_step names (map-FlatExpression FlatExpression Expression (expression_of names) (out-FlatExpression e))
unfolding expression_of out-FlatExpression denote.Hole.Carrier.out
stands_out names e =
    lays-FlatExpression (family Expression) (steps Expression (expression_step names)) e
    ∙ ap (expression_step names) (map_is-FlatExpression the_family (family Expression) (the_fold (family Expression) (steps Expression (expression_step names))) (view-FlatExpression e))

one_level : (names : List Name) (e : FlatExpression) (layer : FlatExpression-F FlatExpression) → out-FlatExpression e ≡ layer →
    expression_of names e ≡ expression_step names (map-FlatExpression FlatExpression Expression (expression_of names) layer)
one_level names e layer h =
    stands_out names e ∙ ap (λ (x : FlatExpression-F FlatExpression). expression_step names (map-FlatExpression FlatExpression Expression (expression_of names) x)) h

pub nothing_stands : (names : List Name) → expression_of names F.Nothing ≡ E.Nothing
nothing_stands names = one_level names F.Nothing FlatExpression-F.Nothing F.outs-Nothing

pub bool_stands : (names : List Name) (b : Bool) → expression_of names (F.Bool b) ≡ E.Bool b
bool_stands names b = one_level names (F.Bool b) (FlatExpression-F.Bool b) (F.outs-Bool b)

pub int_stands : (names : List Name) (z : ℤ) → expression_of names (F.Int z) ≡ E.Int z
int_stands names z = one_level names (F.Int z) (FlatExpression-F.Int z) (F.outs-Int z)

pub local_stands : (names : List Name) (slot : LocalSlot) → expression_of names (F.Local slot) ≡ E.Local (name_of names slot.number)
local_stands names slot = one_level names (F.Local slot) (FlatExpression-F.Local slot) (F.outs-Local slot)

pub current_stands : (names : List Name) → expression_of names F.Current ≡ E.Current
current_stands names = one_level names F.Current FlatExpression-F.Current F.outs-Current

pub fault_stands : (names : List Name) (f : FaultKind) → expression_of names (F.Fault f) ≡ E.Fault f
fault_stands names f = one_level names (F.Fault f) (FlatExpression-F.Fault f) (F.outs-Fault f)

pub unary_stands : (names : List Name) (op : Unary) (e : FlatExpression) → expression_of names (F.Unary op e) ≡ E.Unary op (expression_of names e)
unary_stands names op e = one_level names (F.Unary op e) (FlatExpression-F.Unary op e) (F.outs-Unary op e)

pub binary_stands : (names : List Name) (op : Binary) (e d : FlatExpression) → expression_of names (F.Binary op e d) ≡ E.Binary op (expression_of names e) (expression_of names d)
binary_stands names op e d = one_level names (F.Binary op e d) (FlatExpression-F.Binary op e d) (F.outs-Binary op e d)

pub and_stands : (names : List Name) (e d : FlatExpression) → expression_of names (F.And e d) ≡ E.And (expression_of names e) (expression_of names d)
and_stands names e d = one_level names (F.And e d) (FlatExpression-F.And e d) (F.outs-And e d)

pub or_stands : (names : List Name) (e d : FlatExpression) → expression_of names (F.Or e d) ≡ E.Or (expression_of names e) (expression_of names d)
or_stands names e d = one_level names (F.Or e d) (FlatExpression-F.Or e d) (F.outs-Or e d)

pub list_stands : (names : List Name) (es : List FlatExpression) → expression_of names (F.List es) ≡ E.List (map (expression_of names) es)
list_stands names es = one_level names (F.List es) (FlatExpression-F.List es) (F.outs-List es)

pub query_stands : (names : List Name) (q : Query) (n : ℕ) → expression_of names (F.Query q n) ≡ E.Query q (name_of names n)
query_stands names q n = one_level names (F.Query q n) (FlatExpression-F.Query q n) (F.outs-Query q n)

-- ---- whatever names are met after these

pub stands_later : (names new : List Name) (e : FlatExpression) (x : Expression) → Grows names new → ((more : List Name) → expression_of (names ++ more) e ≡ x) →
    (more : List Name) → expression_of (new ++ more) e ≡ x
stands_later names new e x g h more =
    ap (λ (ns : List Name). expression_of (ns ++ more) e) g.1 ∙ ap (λ (ns : List Name). expression_of ns e) (append_assoc names g.0 more) ∙ h (g.0 ++ more)

-- two operands, one after the other
pub pair_stands : (whole : Expression → Expression → Expression) (flat : FlatExpression → FlatExpression → FlatExpression) →
    ((names : List Name) (e d : FlatExpression) → expression_of names (flat e d) ≡ whole (expression_of names e) (expression_of names d)) →
    (one two : List Name) (e d : FlatExpression) (x y : Expression) → Grows one two → ((more : List Name) → expression_of (one ++ more) e ≡ x) →
    ((more : List Name) → expression_of (two ++ more) d ≡ y) → (more : List Name) → expression_of (two ++ more) (flat e d) ≡ whole x y
pair_stands whole flat says one two e d x y g h k more =
    says (two ++ more) e d ∙ ap (λ z. whole z (expression_of (two ++ more) d)) (stands_later one two e x g h more) ∙ ap (whole x) (k more)
