use Rattle.machine_rooms.specs.Rooms.{room_of_move}
use Rattle.hub_requests.proofs.Rooms.{room_added}
use Rattle.hub_requests.proofs.greenlet_requests.spawn_later.Goals as goal

pub spawn_greenlet-requires-clause-may_add : goal.spawn_greenlet-requires-clause-may_add
spawn_greenlet-requires-clause-may_add c = room_added room_of_move c.args.hub.now c.requires.room
