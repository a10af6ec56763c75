use Rattle.std.proofs.Common.{sym, subst}
use Rattle.hub_objects.specs.Memberships.{AreJoined, AreMembers}
use Rattle.hub_objects.proofs.Belonging.{members_added, members_still}
use Rattle.hub_objects.proofs.objects.Objects.add.Goals as goal

pub invariant_of-self-in_err-add_in : goal.invariant_of-self-in_err-add_in
invariant_of-self-in_err-add_in c =
    let still = members_still c.member_of.result c.args.o c.self.inside.memberships.items c.join.new.table.items c.self.inside.all.items c.in-Ok.ensures.joined c.self.invariant.members in
    record { counted = c.add_in.ensures.counted; members = subst (AreMembers c.join.new.table.items) (sym c.in_err-add_in.ensures.err) still }

pub invariant_of-self-2 : goal.invariant_of-self-2
invariant_of-self-2 c =
    let joins = subst (λ k. AreJoined k c.args.o c.self.inside.memberships.items c.join.new.table.items) c.member_of.ensures c.in-Ok.ensures.joined in
    let members = members_added c.self.inside.memberships.items c.join.new.table.items c.args.addition c.self.inside.all.items c.args.o joins c.self.invariant.members in
    record { counted = c.add_in.ensures.counted; members = subst (AreMembers c.join.new.table.items) (sym c.in_ok-add_in.ensures.added) members }
