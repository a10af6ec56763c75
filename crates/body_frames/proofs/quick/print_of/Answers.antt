use Rattle.std.proofs.Common.{SFits, rules, w64}
use Rattle.std.proofs.lemmas.Int.{to_z-of_z}
use Rattle.body_frames.proofs.Heads.{prints_integer, prints_truth}
use Rattle.body_frames.proofs.quick.print_of.Goals as goal

pub returns-in-Int : goal.returns-in-Int
returns-in-Int c =
    let fits : SFits w64 c.in-Int.n = search rules in
    prints_integer _ c.in-Int.n c.args.expression.now c.args.locals.now (to_z-of_z w64 c.in-Int.n fits) c.in-Int.ensures

pub returns-in-Bool : goal.returns-in-Bool
returns-in-Bool c = prints_truth c.in-Bool.b c.args.expression.now c.args.locals.now c.in-Bool.ensures
