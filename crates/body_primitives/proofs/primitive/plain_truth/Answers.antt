use Rattle.std.proofs.Common.{SFits, rules, w64}
use Rattle.std.proofs.lemmas.Int.{to_z-of_z}
use Rattle.body_primitives.proofs.Primitives.{truth_of_plain}
use Rattle.body_primitives.proofs.primitive.plain_truth.Goals as goal

pub returns-in-Some : goal.returns-in-Some
returns-in-Some c =
    let x : SFits w64 c.in-Some.x = search rules in
    let y : SFits w64 c.in-Some.y = search rules in
    truth_of_plain c.in-Binary.operator c.in-Binary.a c.in-Binary.b c.args.expression.now c.args.locals.now c.in-Some.x c.in-Some.y _ _ c.compare.result c.in-Binary.is
    c.in-Some.ensures.0 c.in-Some.ensures.1 (to_z-of_z w64 c.in-Some.x x) (to_z-of_z w64 c.in-Some.y y) c.compare.ensures
