use Rattle.body_locals.proofs.Places.{stands_place}
use Rattle.body_locals.proofs.locals.is_there.Goals as goal

pub returns-then-is_once-clause-place : goal.returns-then-is_once-clause-place
returns-then-is_once-clause-place c = λ there.
    stands_place c.args.all.now c.args.slot.place c.args.slot.number (c.requires c.if-is_once.true) (c.stands_at.ensures.stands there)
