use Rattle.std.proofs.Common.{◌+◌, sym, subst}
use Rattle.machine.specs.declared.state.Phase.{Phase}
use Rattle.machine.specs.Greenlets.{no_frame}
use Rattle.machine_rooms.specs.Rooms.{HasRoom, room_of_move}
use Rattle.body_frames.specs.Destinations.{inside}
use Rattle.hub_state.specs.Adding.{MayAdd}
use Rattle.hub_requests.proofs.Rooms.{room_added, room_drawn}
use Rattle.hub_engine.proofs.Functions.{declared_limited, declared_phased, declared_settled, declared_timed}
use Rattle.hub_engine.proofs.LegByLeg.{comes_inside}
use Rattle.hub_engine.proofs.Settlings.{settles_first, settles_then, timed_settles}
use Rattle.hub_engine.proofs.Soundly.{timeout_free}
use Rattle.hub_engine.proofs.moves.enter_block.Goals as goal

pub count_timeout-n-requires : goal.count_timeout-n-requires
count_timeout-n-requires c = room_drawn room_of_move c.go_under_way.new.hub (subst (HasRoom room_of_move) (sym c.go_under_way.ensures) (c.requires.room.any no_frame))

pub add_timeout-requires : goal.add_timeout-requires
add_timeout-requires c =
    let room = subst (HasRoom room_of_move) (sym c.go_under_way.ensures) (c.requires.room.any no_frame) in
    record {
      free = timeout_free c.args.g c.count_timeout-n.result c.args.hub.now c.go_under_way.new.hub c.count_timeout-n.new.self c.requires.may_move c.go_under_way.ensures c.count_timeout-n.ensures.number c.count_timeout-n.ensures.counted;
      may_add = subst (MayAdd 1) (sym c.count_timeout-n.ensures.counted) (room_added room_of_move c.go_under_way.new.hub room);
    }

pub settle_hub-requires : goal.settle_hub-requires
settle_hub-requires c =
    let room = subst (HasRoom room_of_move) (sym c.go_under_way.ensures) (c.requires.room.any no_frame) in
    settles_first c.add_timeout.new.hub (timed_settles room_of_move c.args.g c.count_timeout-n.result c.args.after c.go_under_way.new.hub c.count_timeout-n.new.self c.add_timeout.new.hub room c.count_timeout-n.ensures.counted c.in_ok-add_timeout.ensures)

pub arrive-requires : goal.arrive-requires
arrive-requires c =
    let staged = declared_phased c.args.g (Phase.Live no_frame) c.args.hub.now c.go_under_way.new.hub c.requires.declared c.go_under_way.ensures in
    let counted = declared_timed (c.go_under_way.new.hub.timeouts + 1) c.go_under_way.new.hub c.count_timeout-n.new.self staged c.count_timeout-n.ensures.counted in
    let limited = declared_limited c.args.g c.count_timeout-n.result c.args.after c.count_timeout-n.new.self c.add_timeout.new.hub counted c.in_ok-add_timeout.ensures in
    let room = subst (HasRoom room_of_move) (sym c.go_under_way.ensures) (c.requires.room.any no_frame) in
    let timed = timed_settles room_of_move c.args.g c.count_timeout-n.result c.args.after c.go_under_way.new.hub c.count_timeout-n.new.self c.add_timeout.new.hub room c.count_timeout-n.ensures.counted c.in_ok-add_timeout.ensures in
    record {
      stays = c.requires.stays;
      declared = declared_settled c.add_timeout.new.hub c.settle_hub.new.hub limited c.settle_hub.ensures;
      settles = settles_then c.add_timeout.new.hub c.settle_hub.new.hub c.settle_hub.ensures timed;
    }

pub returns : goal.returns
returns c = λ e body h.
    comes_inside c.arrive.new.left c.args.g c.count_timeout-n.result c.args.after e body c.args.hub.now c.go_under_way.new.hub c.count_timeout-n.new.self c.add_timeout.new.hub c.settle_hub.new.hub c.arrive.new.hub
    c.go_under_way.ensures c.count_timeout-n.ensures.number c.count_timeout-n.ensures.counted c.in_ok-add_timeout.ensures c.settle_hub.ensures
    (c.in_ok-arrive.ensures (inside (c.args.hub.now.timeouts + 1) e) body h)
