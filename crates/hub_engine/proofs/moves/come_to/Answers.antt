use Rattle.std.proofs.Common.{sym, subst}
use Rattle.machine.specs.declared.state.Phase.{Phase}
use Rattle.machine.specs.Greenlets.{no_frame}
use Rattle.machine_rooms.specs.Rooms.{HasRoom, room_of_move}
use Rattle.hub_engine.proofs.Functions.{declared_phased, declared_settled}
use Rattle.hub_engine.proofs.LegByLeg.{comes_where}
use Rattle.hub_engine.proofs.Settlings.{room_settles, settles_first, settles_then}
use Rattle.hub_engine.proofs.moves.come_to.Goals as goal

pub settle_hub-requires : goal.settle_hub-requires
settle_hub-requires c =
    let room = subst (HasRoom room_of_move) (sym c.go_under_way.ensures) (c.requires.room.any no_frame) in
    settles_first c.go_under_way.new.hub (room_settles room_of_move c.go_under_way.new.hub room)

pub arrive-requires : goal.arrive-requires
arrive-requires c =
    let staged = declared_phased c.args.g (Phase.Live no_frame) c.args.hub.now c.go_under_way.new.hub c.requires.declared c.go_under_way.ensures in
    let room = subst (HasRoom room_of_move) (sym c.go_under_way.ensures) (c.requires.room.any no_frame) in
    record {
      stays = c.requires.stays;
      declared = declared_settled c.go_under_way.new.hub c.settle_hub.new.hub staged c.settle_hub.ensures;
      settles = settles_then c.go_under_way.new.hub c.settle_hub.new.hub c.settle_hub.ensures (room_settles room_of_move c.go_under_way.new.hub room);
    }

pub returns : goal.returns
returns c = λ place body h.
    comes_where c.arrive.new.left c.args.g place body c.args.hub.now c.go_under_way.new.hub c.settle_hub.new.hub c.arrive.new.hub c.go_under_way.ensures c.settle_hub.ensures
    (c.in_ok-arrive.ensures place body h)
