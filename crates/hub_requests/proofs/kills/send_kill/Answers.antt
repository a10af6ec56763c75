use Rattle.machine_rooms.specs.Rooms.{room_of_move}
use Rattle.hub_requests.proofs.Rooms.{room_added, room_settles}
use Rattle.hub_requests.proofs.kills.send_kill.Goals as goal

pub end_unrun-requires : goal.end_unrun-requires
end_unrun-requires c = room_settles room_of_move c.args.hub.now c.requires

pub add_item-requires-clause-may_add : goal.add_item-requires-clause-may_add
add_item-requires-clause-may_add c = room_added room_of_move c.args.hub.now c.requires
