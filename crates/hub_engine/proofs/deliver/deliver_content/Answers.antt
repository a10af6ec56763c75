use Rattle.std.proofs.Common.{subst}
use Rattle.machine.specs.declared.items.Delivery.{Delivery}
use Rattle.machine_rooms.specs.Rooms.{HasRoom, room_of_delivery}
use Rattle.hub_requests.proofs.Rooms.{room_counted}
use Rattle.hub_engine.proofs.Settlings.{room_settles}
use Rattle.hub_engine.proofs.deliver.deliver_content.Goals as goal

pub start_greenlet-requires-clause-settles : goal.start_greenlet-requires-clause-settles
start_greenlet-requires-clause-settles c = room_settles (room_of_delivery c.args.delivery) c.args.hub.now c.requires.room

pub wake_greenlet-requires-clause-room : goal.wake_greenlet-requires-clause-room
wake_greenlet-requires-clause-room c = subst (λ (d : Delivery). HasRoom (room_of_delivery d) c.args.hub.now) c.in-Wake.is c.requires.room

pub end_late-requires-clause-settles : goal.end_late-requires-clause-settles
end_late-requires-clause-settles c = room_settles (room_of_delivery c.args.delivery) c.args.hub.now c.requires.room

pub throw_into-requires-clause-settles : goal.throw_into-requires-clause-settles
throw_into-requires-clause-settles c = room_settles (room_of_delivery c.args.delivery) c.args.hub.now c.requires.room

pub throw_into-requires-in-Kill-clause-settles : goal.throw_into-requires-in-Kill-clause-settles
throw_into-requires-in-Kill-clause-settles c = room_settles (room_of_delivery c.args.delivery) c.args.hub.now c.requires.room

pub call_link-requires-clause-settles : goal.call_link-requires-clause-settles
call_link-requires-clause-settles c = room_settles (room_of_delivery c.args.delivery) c.args.hub.now c.requires.room

pub call_link-requires-clause-counts : goal.call_link-requires-clause-counts
call_link-requires-clause-counts c = room_counted (room_of_delivery c.args.delivery) c.args.hub.now c.requires.room
