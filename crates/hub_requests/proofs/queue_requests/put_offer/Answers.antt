use Rattle.machine_rooms.specs.Rooms.{room_of_move}
use Rattle.hub_requests.proofs.Rooms.{room_added}
use Rattle.hub_requests.proofs.queue_requests.put_offer.Goals as goal

pub offer-requires-clause-may_add : goal.offer-requires-clause-may_add
offer-requires-clause-may_add c = room_added room_of_move c.args.hub.now c.requires.room
