use Rattle.std.proofs.Common.{◌≡◌, drop}
use Rattle.machine.specs.Request.{sends_all}
use Rattle.machine_rooms.specs.Rooms.{HasRoom, room_of_move}
use Rattle.hub_requests.proofs.kills.send_kills.Given as goal

abbrev pub invariant-loop-target : goal.invariant-loop-target
invariant-loop-target l = record {
  same : sends_all l.kind l.targets l.initial.hub ≡ sends_all l.kind (drop l.target-index l.targets) l.hub;
  room : HasRoom room_of_move l.hub;
}
