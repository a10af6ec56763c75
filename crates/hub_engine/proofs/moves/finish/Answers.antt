use Rattle.std.proofs.Common.{sym, subst}
use Rattle.machine.specs.Request.{performs}
use Rattle.machine_rooms.specs.Rooms.{HasRoom, room_of_move}
use Rattle.machine_rooms.proofs.Requests.{performs-counts}
use Rattle.hub_engine.specs.declared.stand.Progress.{Progress}
use Rattle.hub_engine.specs.Progress.{MayFinish}
use Rattle.hub_engine.proofs.Settlings.{performed_settles}
use Rattle.hub_engine.proofs.moves.finish.Goals as goal

pub go_on_after-requires-in-Asks-clause-settles : goal.go_on_after-requires-in-Asks-clause-settles
go_on_after-requires-in-Asks-clause-settles c =
    let s = c.set_stage-in-Asks.new.self in
    let may = subst (λ (p : Progress). MayFinish p c.args.g c.args.running c.args.hub.now) c.in-Asks.is c.requires in
    let room = subst (HasRoom room_of_move) (sym c.set_stage-in-Asks.ensures) (may.room.any c.into_parked-in-Asks.result) in
    performed_settles room_of_move s (performs c.in-Asks.request c.args.g s) c.in_ok-performed-in-Asks.performed c.perform.new.hub (λ b h. performs-counts b c.in-Asks.request c.args.g s h) room c.in_ok-performed-in-Asks.ensures
