use Rattle.std.proofs.Common.{SFits, rules, subst, sym, w64}
use Rattle.std.proofs.lemmas.Int.{to_z-of_z}
use Rattle.body_names.specs.declared.expression.FlatExpression.{FlatExpression}
use Rattle.body_primitives.specs.Primitives.{MeansAs}
use Rattle.body_primitives.proofs.Primitives.{as_both, as_either, as_local, as_one, as_two, int_has}
use Rattle.body_primitives.proofs.primitive.+evaluate.Goals as goal

pub returns-in-Int : goal.returns-in-Int
returns-in-Int t c =
    let fits : SFits w64 c.in-Int.n = search rules in
    int_has c.args.expression.now c.args.locals.now c.in-Int.n _ c.in-Int.is (to_z-of_z w64 c.in-Int.n fits)

pub returns-in-Local : goal.returns-in-Local
returns-in-Local t c = subst (λ (e : FlatExpression). MeansAs c.of_local.result e c.args.locals.now) (sym c.in-Local.is) (as_local c.of_local.result c.in-Local.slot c.args.locals.now c.of_local.ensures)

pub returns-in-Unary : goal.returns-in-Unary
returns-in-Unary t c =
    let locals = c.args.locals.now in
    let operand = subst (λ (e : FlatExpression). MeansAs c.evaluate.result e locals) c.get.ensures c.evaluate.ensures in
    subst (λ (e : FlatExpression). MeansAs c.of_one.result e locals) (sym c.in-Unary.is)
    (as_one c.of_one.result c.evaluate.result c.in-Unary.operator c.in-Unary.e locals operand c.of_one.ensures)

pub returns-in-Binary : goal.returns-in-Binary
returns-in-Binary t c =
    let locals = c.args.locals.now in
    let first = subst (λ (e : FlatExpression). MeansAs c.evaluate-first.result e locals) c.get-in-Binary.ensures c.evaluate-first.ensures in
    let second = subst (λ (e : FlatExpression). MeansAs c.evaluate-second.result e locals) c.get-in-Binary-2.ensures c.evaluate-second.ensures in
    subst (λ (e : FlatExpression). MeansAs c.of_two.result e locals) (sym c.in-Binary.is)
    (as_two c.of_two.result c.evaluate-first.result c.evaluate-second.result c.in-Binary.operator c.in-Binary.a c.in-Binary.b locals first second c.of_two.ensures)

pub returns-in-And : goal.returns-in-And
returns-in-And t c =
    let locals = c.args.locals.now in
    let first = subst (λ (e : FlatExpression). MeansAs c.evaluate-first-in-And.result e locals) c.get-in-And.ensures c.evaluate-first-in-And.ensures in
    let second = subst (λ (e : FlatExpression). MeansAs c.evaluate-second-in-And.result e locals) c.get-in-And-2.ensures c.evaluate-second-in-And.ensures in
    subst (λ (e : FlatExpression). MeansAs c.of_both.result e locals) (sym c.in-And.is)
    (as_both c.of_both.result c.evaluate-first-in-And.result c.evaluate-second-in-And.result c.in-And.a c.in-And.b locals first second c.of_both.ensures)

pub returns-in-Or : goal.returns-in-Or
returns-in-Or t c =
    let locals = c.args.locals.now in
    let first = subst (λ (e : FlatExpression). MeansAs c.evaluate-first-in-Or.result e locals) c.get-in-Or.ensures c.evaluate-first-in-Or.ensures in
    let second = subst (λ (e : FlatExpression). MeansAs c.evaluate-second-in-Or.result e locals) c.get-in-Or-2.ensures c.evaluate-second-in-Or.ensures in
    subst (λ (e : FlatExpression). MeansAs c.of_either.result e locals) (sym c.in-Or.is)
    (as_either c.of_either.result c.evaluate-first-in-Or.result c.evaluate-second-in-Or.result c.in-Or.a c.in-Or.b locals first second c.of_either.ensures)
