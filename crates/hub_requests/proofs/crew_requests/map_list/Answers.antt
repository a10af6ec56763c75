use Rattle.std.proofs.Common.{◌+◌, arith}
use Rattle.gv_values.specs.declared.limits.TheConstants.{MOST_ELEMENTS}
use Rattle.machine_rooms.specs.Rooms.{room_of_move}
use Rattle.hub_requests.proofs.Rooms.{room_counts, room_made}
use Rattle.hub_requests.proofs.crew_requests.map_list.Goals as goal

pub map_elements-requires-clause-may_add : goal.map_elements-requires-clause-may_add
map_elements-requires-clause-may_add c = room_made room_of_move (MOST_ELEMENTS + 1) c.args.hub.now (omega arith) c.requires.room

pub map_elements-requires-clause-count : goal.map_elements-requires-clause-count
map_elements-requires-clause-count c = room_counts room_of_move (MOST_ELEMENTS + 1) c.args.hub.now (omega arith) c.requires.room c.args.o
