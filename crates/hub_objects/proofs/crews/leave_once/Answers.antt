use Rattle.std.proofs.Common.{◌≡◌, ◌<◌, ◌≤◌, ◌∙◌, ◌==◌, true, length, get_or, ap, arith}
use Rattle.std.specs.Prelude.{remove}
use Rattle.hub_objects.specs.Memberships.{times}
use Rattle.hub_objects.proofs.Leaving.{leaves_once}
use Rattle.hub_objects.proofs.crews.leave_once.Goals as goal

pub returns-then-is_at : goal.returns-then-is_at
returns-then-is_at c =
    let same = c.loop-i.invariant.0 in
    let within : c.loop-i.i < length c.loop-i.members = omega (arith, ap length same) in
    let here : (get_or c.loop-i.members c.loop-i.i 0 == c.args.g) ≡ true = cc in
    let once : times c.args.g c.loop-i.members ≤ 1 = rw same c.requires in
    let gone : c.remove.new.self ≡ remove c.loop-i.members c.loop-i.i = c.remove.ensures.rest in
    rw gone (leaves_once c.args.g c.loop-i.i c.loop-i.members within here once ∙ rw same (cc))
