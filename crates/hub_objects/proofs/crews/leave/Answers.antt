use Rattle.std.proofs.Common.{◌≡◌, ◌<◌, ◌∙◌, ◌==◌, true, length, get_or, arith}
use Rattle.std.specs.Prelude.{remove}
use Rattle.std.proofs.lemmas.List.Edits.{length-remove}
use Rattle.hub_objects.proofs.Leaving.{leaves}
use Rattle.hub_objects.proofs.crews.leave.Goals as goal

pub loop-i-preserved-then-is_at : goal.loop-i-preserved-then-is_at
loop-i-preserved-then-is_at c =
    let within : c.loop-i.i < length c.loop-i.members = omega arith in
    let here : (get_or c.loop-i.members c.loop-i.i 0 == c.args.g) ≡ true = cc in
    let gone : c.remove.new.self ≡ remove c.loop-i.members c.loop-i.i = c.remove.ensures.rest in
    let same = leaves c.args.g c.loop-i.i c.loop-i.members within here in
    let long = length-remove c.loop-i.members c.loop-i.i within in
    rw gone (c.loop-i.invariant.0 ∙ same, omega (arith, long))
