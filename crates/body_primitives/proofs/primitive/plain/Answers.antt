use Rattle.std.proofs.Common.{SFits, rules, w64}
use Rattle.std.proofs.lemmas.Int.{to_z-of_z}
use Rattle.body_primitives.proofs.Primitives.{int_has, integer_has, value_has}
use Rattle.body_primitives.proofs.primitive.plain.Goals as goal

pub returns-in-Int : goal.returns-in-Int
returns-in-Int c =
    let fits : SFits w64 c.in-Int.n = search rules in
    int_has c.args.expression.now c.args.locals.now c.in-Int.n _ c.in-Int.is (to_z-of_z w64 c.in-Int.n fits)

pub returns-in-Some : goal.returns-in-Some
returns-in-Some c =
    value_has c.args.expression.now c.in-Local.slot c.args.locals.now c.in-Some.value.now c.integer_of.result c.in-Local.is c.in-Some.ensures c.integer_of.ensures

pub returns : goal.returns
returns c = integer_has c.args.expression.now c.in-Local.slot c.args.locals.now c.integer_searched.result c.in-Local.is c.integer_searched.ensures
