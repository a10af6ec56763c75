use Rattle.std.proofs.Common.{◌+◌, ◌∙◌, refl, ap, sym, subst}
use Rattle.machine.specs.declared.state.Phase.{Phase}
use Rattle.machine.specs.Greenlets.{no_frame, with_phase}
use Rattle.machine.specs.Request.{follows, performs}
use Rattle.machine_rooms.specs.Rooms.{HasRoom, room_of_move}
use Rattle.machine_rooms.proofs.Requests.{performs-counts}
use Rattle.hub_requests.specs.Performing.{performed_of}
use Rattle.hub_requests.specs.declared.performed.Performed.{Performed}
use Rattle.hub_engine.specs.Settlings.{most_hops}
use Rattle.hub_engine.proofs.Beside.{declared_beside, declared_waiting, performed_beside, still_under_way}
use Rattle.hub_engine.proofs.Settlings.{performed_settles, settles_phased}
use Rattle.hub_engine.proofs.Soundly.{sound_parked}
use Rattle.hub_engine.proofs.moves.serve_beside.Goals as goal

pub perform-requires-clause-room : goal.perform-requires-clause-room
perform-requires-clause-room c = subst (HasRoom room_of_move) (sym c.go_under_way.ensures) (c.requires.room.any no_frame)

pub answer_running-requires : goal.answer_running-requires
answer_running-requires c =
    let came = c.in_ok-performed.performed in
    let room = subst (HasRoom room_of_move) (sym c.go_under_way.ensures) (c.requires.room.any no_frame) in
    record {
      stays = c.requires.stays;
      few = c.requires.few;
      declared = declared_beside c.args.g c.args.running.now c.args.request came c.args.hub.now c.go_under_way.new.hub c.perform.new.hub c.requires.leaves c.go_under_way.ensures c.in_ok-performed.ensures c.requires.after;
      under_way = still_under_way c.args.g c.args.request came c.args.hub.now c.go_under_way.new.hub c.perform.new.hub c.requires.may_move c.requires.leaves c.go_under_way.ensures c.in_ok-performed.ensures;
      settles = performed_settles room_of_move c.go_under_way.new.hub (performs c.args.request c.args.g c.go_under_way.new.hub) came c.perform.new.hub (λ b h. performs-counts b c.args.request c.args.g c.go_under_way.new.hub h)
          room c.in_ok-performed.ensures;
    }

pub returns-in_ok-answer_running-in-Answers : goal.returns-in_ok-answer_running-in-Answers
returns-in_ok-answer_running-in-Answers c =
    let pr = c.in_ok-answer_running-in-Answers.ensures in
    record {
      comes = ap (follows c.args.g)
          (performed_beside c.args.g c.args.running.now c.args.request c.in_ok-performed.performed c.args.hub.now c.go_under_way.new.hub c.perform.new.hub c.requires.leaves c.go_under_way.ensures c.in_ok-performed.ensures
          ∙ ap (λ (p : Performed). performed_of p (with_phase c.args.g (Phase.Live c.args.running.now) c.perform.new.hub)) c.in-Answers.is)
          ∙ pr.comes;
      may = pr.may;
    }

pub returns-in_default : goal.returns-in_default
returns-in_default c =
    let came = c.in_ok-performed.performed in
    let b = c.args.running.now in
    let room = subst (HasRoom room_of_move) (sym c.go_under_way.ensures) (c.requires.room.any no_frame) in
    let after = performed_settles room_of_move c.go_under_way.new.hub (performs c.args.request c.args.g c.go_under_way.new.hub) came c.perform.new.hub
    (λ b h. performs-counts b c.args.request c.args.g c.go_under_way.new.hub h) room c.in_ok-performed.ensures in
    record {
      comes = ap (follows c.args.g) (performed_beside c.args.g b c.args.request came c.args.hub.now c.go_under_way.new.hub c.perform.new.hub c.requires.leaves c.go_under_way.ensures c.in_ok-performed.ensures);
      may = record {
        few = c.requires.few;
        declared = declared_waiting c.args.g b c.args.request came c.args.hub.now c.go_under_way.new.hub c.perform.new.hub (with_phase c.args.g (Phase.Live b) c.perform.new.hub) c.requires.leaves c.go_under_way.ensures
            c.in_ok-performed.ensures c.requires.after refl;
        settles = settles_phased (most_hops + 2) c.args.g (Phase.Live b) c.perform.new.hub (with_phase c.args.g (Phase.Live b) c.perform.new.hub) refl after;
      };
    }

pub perform-requires-clause-may_make : goal.perform-requires-clause-may_make
perform-requires-clause-may_make c = sound_parked c.args.g no_frame c.args.hub.now c.go_under_way.new.hub c.requires.may_move c.go_under_way.ensures
