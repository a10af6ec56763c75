use Rattle.std.proofs.Common.{sym, subst}
use Rattle.hub_objects.specs.Memberships.{AreMembers}
use Rattle.hub_objects.proofs.Belonging.{members_changed}
use Rattle.hub_objects.proofs.objects.Objects.change.Goals as goal

pub invariant_of-self : goal.invariant_of-self
invariant_of-self c =
    let table = c.self.inside.memberships.items in
    let members = members_changed table c.args.change c.self.inside.all.items c.args.o c.self.invariant.members in
    record { counted = c.change_in.ensures.counted; members = subst (AreMembers table) (sym c.change_in.ensures.changed) members }
