use Rattle.std.proofs.Common.{subst, sym, arith}
use Rattle.hub_state.specs.Adding.{MayAdd}
use Rattle.hub_requests.proofs.Rooms.{drawn_still, fewer_added, made_after}
use Rattle.hub_requests.proofs.Soundly.{late_free, wake_free}
use Rattle.hub_requests.proofs.parking.park_until.Goals as goal

pub add_item-requires-clause-unclaimed : goal.add_item-requires-clause-unclaimed
add_item-requires-clause-unclaimed c = wake_free c.args.g _ c.args.hub.now c.say.new.self c.requires.may_make c.in_ok-say.ensures

pub add_item-requires-clause-may_add : goal.add_item-requires-clause-may_add
add_item-requires-clause-may_add c = subst (MayAdd 1) (sym c.in_ok-say.ensures) (fewer_added 1 2 c.args.hub.now (omega arith) c.requires.may_add)

pub add_late-requires-clause-unclaimed : goal.add_late-requires-clause-unclaimed
add_late-requires-clause-unclaimed c = late_free c.args.g c.args.waiting _ c.args.hub.now c.say.new.self c.add_item.new.self c.requires.may_make c.in_ok-say.ensures c.in_ok-add_item.ensures

pub add_late-requires-clause-may_add : goal.add_late-requires-clause-may_add
add_late-requires-clause-may_add c = made_after _ _ c.args.hub.now c.say.new.self c.add_item.new.self c.in_ok-say.ensures c.in_ok-add_item.ensures c.requires.may_add

pub add_late-requires-clause-drawn : goal.add_late-requires-clause-drawn
add_late-requires-clause-drawn c = drawn_still _ _ c.args.hub.now c.say.new.self c.add_item.new.self c.in_ok-say.ensures c.in_ok-add_item.ensures c.requires.drawn
