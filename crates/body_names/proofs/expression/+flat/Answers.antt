use Rattle.std.proofs.Common.{◌∙◌, ap, arith, sym}
use Rattle.scenario_tree.specs.declared.tree.Expression.TheVariants as E
use Rattle.body_names.specs.declared.expression.FlatExpression.TheVariants as F
use Rattle.body_names.proofs.Expressions.{and_stands, binary_stands, bool_stands, current_stands, fault_stands, int_stands, list_stands, local_stands, nothing_stands, or_stands, pair_stands, query_stands, unary_stands}
use Rattle.body_names.proofs.expression.+flat.Goals as goal

pub flat_expression-returns-in-Nothing-clause-same : goal.flat_expression-returns-in-Nothing-clause-same
flat_expression-returns-in-Nothing-clause-same t c = λ more. nothing_stands _ ∙ sym c.in-Nothing.is

pub flat_expression-returns-in-Bool-clause-same : goal.flat_expression-returns-in-Bool-clause-same
flat_expression-returns-in-Bool-clause-same t c = λ more. bool_stands _ _ ∙ sym c.in-Bool.is

pub flat_expression-returns-in-Int-clause-same : goal.flat_expression-returns-in-Int-clause-same
flat_expression-returns-in-Int-clause-same t c = grind (arith, int_stands)

pub flat_expression-returns-in_ok-slot-in-Local-clause-same : goal.flat_expression-returns-in_ok-slot-in-Local-clause-same
flat_expression-returns-in_ok-slot-in-Local-clause-same t c = λ more. local_stands _ _ ∙ ap E.Local (c.in_ok-slot-in-Local.ensures.same more) ∙ sym c.in-Local.is

pub flat_expression-returns-in-Current-clause-same : goal.flat_expression-returns-in-Current-clause-same
flat_expression-returns-in-Current-clause-same t c = λ more. current_stands _ ∙ sym c.in-Current.is

pub flat_expression-returns-in-Fault-clause-same : goal.flat_expression-returns-in-Fault-clause-same
flat_expression-returns-in-Fault-clause-same t c = λ more. fault_stands _ _ ∙ sym c.in-Fault.is

pub flat_expression-returns-in_ok-flat_boxed-in-Unary-clause-same : goal.flat_expression-returns-in_ok-flat_boxed-in-Unary-clause-same
flat_expression-returns-in_ok-flat_boxed-in-Unary-clause-same t c = λ more. unary_stands _ _ _ ∙ ap (E.Unary c.in-Unary.unary) (c.in_ok-flat_boxed-in-Unary.ensures.same more) ∙ sym c.in-Unary.is

pub flat_expression-returns-in_ok-flat_boxed-in-Binary-clause-same : goal.flat_expression-returns-in_ok-flat_boxed-in-Binary-clause-same
flat_expression-returns-in_ok-flat_boxed-in-Binary-clause-same t c = λ more.
    pair_stands (E.Binary c.in-Binary.binary) (F.Binary c.in-Binary.binary) (λ names e d. binary_stands names c.in-Binary.binary e d) c.flat_boxed-in-Binary.new.naming.names c.flat_boxed-in-Binary-2.new.naming.names c.in_ok-a-in-Binary.a
    c.in_ok-flat_boxed-in-Binary.field-0 c.in-Binary.a c.in-Binary.b c.in_ok-flat_boxed-in-Binary.ensures.grows c.in_ok-a-in-Binary.ensures.same c.in_ok-flat_boxed-in-Binary.ensures.same more
    ∙ sym c.in-Binary.is

pub flat_expression-returns-in_ok-flat_boxed-in-And-clause-same : goal.flat_expression-returns-in_ok-flat_boxed-in-And-clause-same
flat_expression-returns-in_ok-flat_boxed-in-And-clause-same t c = λ more.
    pair_stands E.And F.And and_stands c.flat_boxed-in-And.new.naming.names c.flat_boxed-in-And-2.new.naming.names c.in_ok-a-in-And.a
    c.in_ok-flat_boxed-in-And.field-0 c.in-And.a c.in-And.b c.in_ok-flat_boxed-in-And.ensures.grows c.in_ok-a-in-And.ensures.same c.in_ok-flat_boxed-in-And.ensures.same more
    ∙ sym c.in-And.is

pub flat_expression-returns-in_ok-flat_boxed-in-Or-clause-same : goal.flat_expression-returns-in_ok-flat_boxed-in-Or-clause-same
flat_expression-returns-in_ok-flat_boxed-in-Or-clause-same t c = λ more.
    pair_stands E.Or F.Or or_stands c.flat_boxed-in-Or.new.naming.names c.flat_boxed-in-Or-2.new.naming.names c.in_ok-a-in-Or.a
    c.in_ok-flat_boxed-in-Or.field-0 c.in-Or.a c.in-Or.b c.in_ok-flat_boxed-in-Or.ensures.grows c.in_ok-a-in-Or.ensures.same c.in_ok-flat_boxed-in-Or.ensures.same more
    ∙ sym c.in-Or.is

pub flat_expression-returns-in_ok-flat_items-in-List-clause-same : goal.flat_expression-returns-in_ok-flat_items-in-List-clause-same
flat_expression-returns-in_ok-flat_items-in-List-clause-same t c = λ more. list_stands _ _ ∙ ap E.List (c.in_ok-flat_items-in-List.ensures.same more) ∙ sym c.in-List.is

pub flat_expression-returns-in_ok-number-in-Query-clause-same : goal.flat_expression-returns-in_ok-number-in-Query-clause-same
flat_expression-returns-in_ok-number-in-Query-clause-same t c = λ more. query_stands _ _ _ ∙ ap (E.Query c.in-Query.query) (c.in_ok-number-in-Query.ensures.same more) ∙ sym c.in-Query.is
