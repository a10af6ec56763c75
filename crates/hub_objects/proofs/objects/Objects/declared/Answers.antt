use Rattle.std.proofs.Common.{sym, subst}
use Rattle.hub_objects.specs.Memberships.{AreKept}
use Rattle.hub_objects.proofs.Belonging.{members_declared}
use Rattle.hub_objects.proofs.objects.Objects.declared.Goals as goal

pub invariant_of-result : goal.invariant_of-result
invariant_of-result c =
    subst (AreKept c.new.result.items) (sym c.in_ok-all.ensures) (record { counted = c.requires.counted; members = members_declared c.new.result.items c.args.declarations.now })
