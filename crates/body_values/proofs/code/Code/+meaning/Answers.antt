use Rattle.std.proofs.Common.{◌∙◌, ap, arith, sym}
use Rattle.gv_values.specs.declared.value.Outcome.{Outcome}
use Rattle.body_names.specs.declared.expression.FlatExpression.{FlatExpression}
use Rattle.body_names.specs.Expressions.{expression_of}
use Rattle.body_locals.specs.Locals.{locals_of}
use Rattle.machine.specs.Bodies.{around}
use Rattle.machine.specs.Expressions.{meaning}
use Rattle.body_values.proofs.Meanings.{flat_nothing, flat_bool, flat_int, flat_local, flat_current, flat_fault, flat_one, flat_two, flat_both, flat_either, flat_list, flat_query}
use Rattle.body_values.proofs.code.Code.+meaning.Goals as goal

pub meaning-returns-in-Nothing : goal.meaning-returns-in-Nothing
meaning-returns-in-Nothing g t c = grind (arith, flat_nothing)

pub meaning-returns-in-Bool : goal.meaning-returns-in-Bool
meaning-returns-in-Bool g t c = grind (arith, flat_bool)

pub meaning-returns-in-Int : goal.meaning-returns-in-Int
meaning-returns-in-Int g t c = grind (arith, flat_int)

pub meaning-returns-in_ok-value_of_local-in-Local : goal.meaning-returns-in_ok-value_of_local-in-Local
meaning-returns-in_ok-value_of_local-in-Local g t c = grind (arith, flat_local)

pub meaning-returns-in-Current : goal.meaning-returns-in-Current
meaning-returns-in-Current g t c = grind (arith, flat_current)

pub meaning-returns-in-Fault : goal.meaning-returns-in-Fault
meaning-returns-in-Fault g t c = grind (arith, flat_fault)

pub meaning-returns-in-Some : goal.meaning-returns-in-Some
meaning-returns-in-Some g t c =
    let names = c.args.scope.blocks.now.names in
    let a = around c.args.self.now (g.L.Look.answers c.args.look.now) (locals_of names c.args.scope.locals.now) in
    let held = c.in-Some.ensures c.args.self.now (g.L.Look.answers c.args.look.now) ∙ ap (λ (e : FlatExpression). meaning (expression_of names e) a) c.get-e.ensures in
    rw c.in-Unary.is (c.in_ok-unary-in-Unary.ensures ∙ flat_one names c.in-Unary.unary c.in-Unary.e a (Outcome.Value c.in-Some.operand.now) held)

pub meaning-returns-in_ok-of_one-in-Unary : goal.meaning-returns-in_ok-of_one-in-Unary
meaning-returns-in_ok-of_one-in-Unary g t c =
    let names = c.args.scope.blocks.now.names in
    let a = around c.args.self.now (g.L.Look.answers c.args.look.now) (locals_of names c.args.scope.locals.now) in
    let first = c.in_ok-operand-in-Unary.ensures ∙ ap (λ (e : FlatExpression). meaning (expression_of names e) a) c.get-e.ensures in
    rw c.in-Unary.is (c.in_ok-of_one-in-Unary.ensures ∙ flat_one names c.in-Unary.unary c.in-Unary.e a c.in_ok-operand-in-Unary.operand first)

pub meaning-returns-in-Some-find_operand : goal.meaning-returns-in-Some-find_operand
meaning-returns-in-Some-find_operand g t c =
    let names = c.args.scope.blocks.now.names in
    let a = around c.args.self.now (g.L.Look.answers c.args.look.now) (locals_of names c.args.scope.locals.now) in
    let held = c.in-Some-find_operand.ensures c.args.self.now (g.L.Look.answers c.args.look.now) ∙ ap (λ (e : FlatExpression). meaning (expression_of names e) a) c.get-a.ensures in
    rw c.in-Binary.is (c.in_ok-of_two-in-Binary.ensures ∙ flat_two names c.in-Binary.binary c.in-Binary.a c.in-Binary.b a (Outcome.Value c.in-Some-find_operand.first.now) held)

pub meaning-returns-in_ok-of_two-in-Value : goal.meaning-returns-in_ok-of_two-in-Value
meaning-returns-in_ok-of_two-in-Value g t c =
    let names = c.args.scope.blocks.now.names in
    let a = around c.args.self.now (g.L.Look.answers c.args.look.now) (locals_of names c.args.scope.locals.now) in
    let first = sym c.in-Value.is ∙ c.in_ok-first-in-Binary.ensures ∙ ap (λ (e : FlatExpression). meaning (expression_of names e) a) c.get-a.ensures in
    rw c.in-Binary.is (c.in_ok-of_two-in-Value.ensures ∙ flat_two names c.in-Binary.binary c.in-Binary.a c.in-Binary.b a (Outcome.Value c.in-Value.first) first)

pub meaning-returns-in-Fault-2 : goal.meaning-returns-in-Fault-2
meaning-returns-in-Fault-2 g t c =
    let names = c.args.scope.blocks.now.names in
    let a = around c.args.self.now (g.L.Look.answers c.args.look.now) (locals_of names c.args.scope.locals.now) in
    let first = sym c.in-Fault-2.is ∙ c.in_ok-first-in-Binary.ensures ∙ ap (λ (e : FlatExpression). meaning (expression_of names e) a) c.get-a.ensures in
    rw c.in-Binary.is (flat_two names c.in-Binary.binary c.in-Binary.a c.in-Binary.b a (Outcome.Fault c.in-Fault-2.kind) first)

pub meaning-returns-in_ok-of_both-in-And : goal.meaning-returns-in_ok-of_both-in-And
meaning-returns-in_ok-of_both-in-And g t c =
    let names = c.args.scope.blocks.now.names in
    let a = around c.args.self.now (g.L.Look.answers c.args.look.now) (locals_of names c.args.scope.locals.now) in
    let first = c.in_ok-first-in-And.ensures ∙ ap (λ (e : FlatExpression). meaning (expression_of names e) a) c.get.ensures in
    rw c.in-And.is (c.in_ok-of_both-in-And.ensures ∙ flat_both names c.in-And.a c.in-And.b a c.in_ok-first-in-And.first first)

pub meaning-returns-in_ok-of_either-in-Or : goal.meaning-returns-in_ok-of_either-in-Or
meaning-returns-in_ok-of_either-in-Or g t c =
    let names = c.args.scope.blocks.now.names in
    let a = around c.args.self.now (g.L.Look.answers c.args.look.now) (locals_of names c.args.scope.locals.now) in
    let first = c.in_ok-first-in-Or.ensures ∙ ap (λ (e : FlatExpression). meaning (expression_of names e) a) c.get-in-Or.ensures in
    rw c.in-Or.is (c.in_ok-of_either-in-Or.ensures ∙ flat_either names c.in-Or.a c.in-Or.b a c.in_ok-first-in-Or.first first)

pub meaning-returns-in_ok-of_list-in-List : goal.meaning-returns-in_ok-of_list-in-List
meaning-returns-in_ok-of_list-in-List g t c = grind (arith, flat_list)

pub meaning-returns-in-Query : goal.meaning-returns-in-Query
meaning-returns-in-Query g t c = grind (arith, flat_query)
