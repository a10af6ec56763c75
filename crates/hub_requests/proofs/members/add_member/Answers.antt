use Rattle.std.proofs.Common.{subst, sym}
use Rattle.hub_state.specs.Adding.{MayAdd}
use Rattle.hub_requests.proofs.Rooms.{counted_still}
use Rattle.hub_requests.proofs.members.add_member.Goals as goal

pub add_item-requires-clause-may_add : goal.add_item-requires-clause-may_add
add_item-requires-clause-may_add c = subst (MayAdd 1) (sym c.in_ok-made.ensures.made) c.requires.may_add

pub add_to-requires : goal.add_to-requires
add_to-requires c = counted_still _ 1 c.args.o c.args.function _ c.args.hub.now c.add_greenlet.new.self c.add_item.new.self c.in_ok-made.ensures.made c.in_ok-add_item.ensures c.requires.count
