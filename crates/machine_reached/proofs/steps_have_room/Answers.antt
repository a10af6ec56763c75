use Rattle.machine_reached.proofs.Rooms.{deliveries-room, moves-room, rests-room}
use Rattle.machine_reached.proofs.steps_have_room.Goals as goal

pub returns-clause-moved : goal.returns-clause-moved
returns-clause-moved c = moves-room

pub returns-clause-delivered : goal.returns-clause-delivered
returns-clause-delivered c = deliveries-room

pub returns-clause-rested : goal.returns-clause-rested
returns-clause-rested c = rests-room
