use Rattle.std.proofs.Common.{◌≡◌, ◌<◌, ◌∙◌, length, arith}
use Rattle.std.specs.Prelude.{remove}
use Rattle.std.proofs.lemmas.List.Edits.{length-remove}
use Rattle.machine.specs.Holds.{is_offer_of}
use Rattle.hub_objects.proofs.Leaving.{left_in, taken_out}
use Rattle.hub_objects.proofs.offers.withdraw.Goals as goal

pub loop-i-preserved-then-is_at : goal.loop-i-preserved-then-is_at
loop-i-preserved-then-is_at c =
    let within : c.loop-i.i < length c.loop-i.offers = omega arith in
    let gone : c.drop_at.new.offers ≡ remove c.loop-i.offers c.loop-i.i = c.drop_at.ensures in
    let same = taken_out (is_offer_of c.args.since) c.loop-i.i c.loop-i.offers c.is_at.result within c.is_at.ensures c.if-is_at.true in
    let long = length-remove c.loop-i.offers c.loop-i.i within in
    rw gone (c.loop-i.invariant.0 ∙ same, omega (arith, long))

pub loop-i-preserved : goal.loop-i-preserved
loop-i-preserved c =
    let within : c.loop-i.i < length c.loop-i.offers = omega arith in
    let same = left_in (is_offer_of c.args.since) c.loop-i.i c.loop-i.offers c.is_at.result within c.is_at.ensures c.if-is_at.false in
    (c.loop-i.invariant.0 ∙ same, omega arith)
