use Rattle.std.proofs.Common.{sym, subst}
use Rattle.hub_objects.specs.Memberships.{AreMembers}
use Rattle.hub_objects.proofs.Belonging.{members_item_taken}
use Rattle.hub_objects.proofs.objects.Objects.take_item.Goals as goal

pub invariant_of-self : goal.invariant_of-self
invariant_of-self c =
    let table = c.self.inside.memberships.items in
    let members = members_item_taken table c.self.inside.all.items c.args.o c.self.invariant.members in
    record { counted = c.take_item_in.ensures.counted; members = subst (AreMembers table) (sym c.take_item_in.ensures.taken) members }
