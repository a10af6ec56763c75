use Rattle.hub_requests.proofs.Rooms.{room_completed}
use Rattle.hub_requests.proofs.waits.come_to_wait_as.Goals as goal

pub complete_wait-requires-clause-room : goal.complete_wait-requires-clause-room
complete_wait-requires-clause-room c = room_completed c.args.waiting c.args.hub.now c.requires.room
