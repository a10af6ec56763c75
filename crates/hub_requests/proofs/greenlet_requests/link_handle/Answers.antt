use Rattle.machine_rooms.specs.Rooms.{room_of_move}
use Rattle.hub_requests.proofs.Rooms.{room_added}
use Rattle.hub_requests.proofs.greenlet_requests.link_handle.Goals as goal

pub link_to-requires-clause-may_add : goal.link_to-requires-clause-may_add
link_to-requires-clause-may_add c = room_added room_of_move c.args.hub.now c.requires.room
