use Rattle.std.proofs.Common.{◌∙◌, get_or}
use Rattle.body_locals.proofs.Places.{bind_here, same_tests}
use Rattle.body_locals.proofs.locals.place_of.Goals as goal

pub returns-then-all-i-clause-place : goal.returns-then-all-i-clause-place
returns-then-all-i-clause-place c = λ d v.
    let same = same_tests (get_or c.args.all.now c.loop-i.i c.index-all-i.result).number c.args.number c.if-all-i.true in
    c.loop-i.invariant v ∙ bind_here c.args.all.now c.loop-i.i c.index-all-i.result d c.args.number v c.loop-i-test.true same
