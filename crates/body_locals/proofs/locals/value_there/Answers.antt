use Rattle.std.proofs.Common.{◌∙◌, ap, sym, Some}
use Rattle.std.proofs.lemmas.Option.{slice_get-get_or}
use Rattle.body_locals.proofs.Places.{stands_value}
use Rattle.body_locals.proofs.locals.value_there.Goals as goal

pub returns-then-bound-slot : goal.returns-then-bound-slot
returns-then-bound-slot c =
    let there = c.in-Some.ensures.lookup in
    stands_value c.args.all.now c.args.slot.place c.args.slot.number c.in-Some.bound.now (c.requires c.if-is_once.true)
    (slice_get-get_or c.args.all.now c.args.slot.place c.in-Some.bound.now there.3.0 ∙ ap Some (sym there.1)) c.if-bound-slot.true
