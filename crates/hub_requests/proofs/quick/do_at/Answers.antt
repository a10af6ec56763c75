use Rattle.machine_rooms.specs.Rooms.{room_of_move}
use Rattle.hub_requests.proofs.Rooms.{room_counted}
use Rattle.hub_requests.proofs.quick.do_at.Goals as goal

pub change-requires : goal.change-requires
change-requires c = room_counted room_of_move c.args.hub.now c.requires c.args.o

pub release-requires : goal.release-requires
release-requires c = room_counted room_of_move c.args.hub.now c.requires c.args.o
