use Rattle.std.proofs.Common.{◌+◌, arith}
use Rattle.gv_values.specs.declared.limits.TheConstants.{MOST_ELEMENTS}
use Rattle.machine_rooms.specs.Steps.{wait_weight}
use Rattle.hub_requests.proofs.Rooms.{room_added, room_counted, room_counts, room_made, room_posted}
use Rattle.hub_requests.proofs.completions.complete_wait.Goals as goal

pub change-requires-in-Lock : goal.change-requires-in-Lock
change-requires-in-Lock c = room_counted (2 + wait_weight c.args.waiting) c.args.hub.now c.requires.room c.in-Lock.o

pub put_item-requires : goal.put_item-requires
put_item-requires c = room_counted (2 + wait_weight c.args.waiting) c.args.hub.now c.requires.room c.in-Put.o

pub post_job-requires-clause-number : goal.post_job-requires-clause-number
post_job-requires-clause-number c = room_posted (2 + wait_weight c.args.waiting) c.args.hub.now c.requires.room

pub post_job-requires-clause-slot : goal.post_job-requires-clause-slot
post_job-requires-clause-slot c = room_counted (2 + wait_weight c.args.waiting) c.args.hub.now c.requires.room c.in-Slot.o

pub make_member-requires-clause-may_add : goal.make_member-requires-clause-may_add
make_member-requires-clause-may_add c = room_added (2 + wait_weight c.args.waiting) c.args.hub.now c.requires.room

pub make_member-requires-clause-count : goal.make_member-requires-clause-count
make_member-requires-clause-count c = room_counted (2 + wait_weight c.args.waiting) c.args.hub.now c.requires.room c.in-Place.o

pub go_on_mapping-requires-clause-may_add : goal.go_on_mapping-requires-clause-may_add
go_on_mapping-requires-clause-may_add c = room_made (2 + wait_weight c.args.waiting) (MOST_ELEMENTS + 2) c.args.hub.now (omega arith) c.requires.room

pub go_on_mapping-requires-clause-count : goal.go_on_mapping-requires-clause-count
go_on_mapping-requires-clause-count c = room_counts (2 + wait_weight c.args.waiting) (MOST_ELEMENTS + 2) c.args.hub.now (omega arith) c.requires.room c.in-MapPlace.o
