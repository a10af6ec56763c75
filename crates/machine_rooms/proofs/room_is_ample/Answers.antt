use Rattle.machine_rooms.proofs.Rooms.{room-ample}
use Rattle.machine_rooms.proofs.room_is_ample.Goals as goal

pub returns : goal.returns
returns c = room-ample
