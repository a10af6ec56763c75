use Rattle.std.proofs.Common.{arith}
use Rattle.machine_rooms.specs.Rooms.{room_of_move}
use Rattle.hub_requests.proofs.Rooms.{room_added, room_drawn, room_made}
use Rattle.hub_requests.proofs.waits.park_or_pass.Goals as goal

pub park_until-requires-clause-drawn : goal.park_until-requires-clause-drawn
park_until-requires-clause-drawn c = room_drawn room_of_move c.args.hub.now c.requires.room

pub draw-n-requires : goal.draw-n-requires
draw-n-requires c = room_drawn room_of_move c.args.hub.now c.requires.room

pub park_as-requires-clause-may_add : goal.park_as-requires-clause-may_add
park_as-requires-clause-may_add c = room_added room_of_move c.args.hub.now c.requires.room

pub park_until-requires-clause-may_add : goal.park_until-requires-clause-may_add
park_until-requires-clause-may_add c = room_made room_of_move 2 c.args.hub.now (omega arith) c.requires.room
