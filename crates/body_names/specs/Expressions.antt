-- What an expression with numbers stands for, where these are the names.
use Rattle.std.specs.Prelude.{List}
use Rattle.gv_values.specs.declared.name.Name.{Name}
use Rattle.scenario_tree.specs.declared.tree.Expression.{Expression}
use Rattle.scenario_tree.specs.declared.tree.Expression.TheVariants as E
use Rattle.body_names.specs.declared.expression.FlatExpression.{FlatExpression}
use Rattle.body_names.specs.declared.expression.FlatExpression.TheBlock.{laid-FlatExpression}
use Rattle.body_names.specs.declared.expression.FlatExpression.TheFolds.{family, steps}
use Rattle.body_names.specs.declared.expression.FlatExpression.TheOpen.{FlatExpression-F}
use Rattle.body_names.specs.Naming.{name_of}

-- one level, from what its operands stand for
abbrev pub expression_step : List Name → FlatExpression-F Expression → Expression
expression_step names FlatExpression-F.Nothing = E.Nothing
expression_step names (FlatExpression-F.Bool b) = E.Bool b
expression_step names (FlatExpression-F.Int z) = E.Int z
expression_step names (FlatExpression-F.Local slot) = E.Local (name_of names slot.number)
expression_step names FlatExpression-F.Current = E.Current
expression_step names (FlatExpression-F.Fault f) = E.Fault f
expression_step names (FlatExpression-F.Unary op e) = E.Unary op e
expression_step names (FlatExpression-F.Binary op e d) = E.Binary op e d
expression_step names (FlatExpression-F.And e d) = E.And e d
expression_step names (FlatExpression-F.Or e d) = E.Or e d
expression_step names (FlatExpression-F.List es) = E.List es
expression_step names (FlatExpression-F.Query q n) = E.Query q (name_of names n)

-- the expression of the tree
unfoldable pub expression_of : List Name → FlatExpression → Expression
expression_of names = laid-FlatExpression (family Expression) (steps Expression (expression_step names))
