use Rattle.hub_objects.proofs.ObjectSets.{counted_withdrawn}
use Rattle.hub_objects.proofs.Belonging.{members_withdrawn}
use Rattle.hub_objects.proofs.objects.Objects.withdraw.Goals as goal

pub invariant_of-self : goal.invariant_of-self
invariant_of-self c =
    let os = c.self.inside.all.items in
    let i = c.self.invariant in
    rw c.withdraw_each.ensures (record { counted = counted_withdrawn c.args.since os i.counted; members = members_withdrawn c.args.since c.self.inside.memberships.items os i.members })
