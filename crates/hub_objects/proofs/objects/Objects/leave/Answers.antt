use Rattle.hub_objects.proofs.ObjectSets.{counted_left}
use Rattle.hub_objects.proofs.Belonging.{members_left}
use Rattle.hub_objects.proofs.objects.Objects.leave.Goals as goal

pub invariant_of-self : goal.invariant_of-self
invariant_of-self c =
    let os = c.self.inside.all.items in
    let i = c.self.invariant in
    rw c.leave_those.ensures (record {
      counted = counted_left c.args.g os i.counted;
      members = members_left c.args.g c.self.inside.memberships.items c.forget.new.table.items os c.forget.ensures i.members;
    })
