use Rattle.machine_rooms.specs.Rooms.{room_of_move}
use Rattle.hub_requests.proofs.Rooms.{room_added}
use Rattle.hub_requests.proofs.greenlet_requests.start_handle.Goals as goal

pub start_greenlet-requires : goal.start_greenlet-requires
start_greenlet-requires c = room_added room_of_move c.args.hub.now c.requires.room
