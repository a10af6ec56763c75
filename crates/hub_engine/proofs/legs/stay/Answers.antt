use Rattle.std.proofs.Common.{◌∙◌, ap, sym, subst}
use Rattle.machine.specs.declared.state.Phase.{Phase}
use Rattle.machine.specs.Greenlets.{no_frame, with_phase}
use Rattle.machine.specs.State.{State}
use Rattle.machine_rooms.specs.Rooms.{HasRoom, room_of_move}
use Rattle.hub_engine.proofs.Settlings.{room_settles, settles_first}
use Rattle.hub_engine.proofs.legs.stay.Goals as goal

pub settle_hub-requires : goal.settle_hub-requires
settle_hub-requires c =
    let u = c.go_under_way.new.hub in
    let counted = c.go_under_way.ensures ∙ ap (λ (x : State). with_phase c.args.g (Phase.Live no_frame) x) c.count_moves.ensures in
    settles_first u (room_settles room_of_move u (subst (HasRoom room_of_move) (sym counted) (c.requires.room.any no_frame)))
