use Rattle.std.proofs.Common.{sym, subst, None, Some}
use Rattle.machine.specs.Greenlets.{no_frame}
use Rattle.machine_rooms.specs.Rooms.{HasRoom, room_of_move}
use Rattle.hub_engine.specs.declared.stand.Progress.{Progress}
use Rattle.hub_engine.specs.Legs.{EndsBy}
use Rattle.hub_engine.proofs.LegByLeg.{answers_by, asked_quickly, stays_answered}
use Rattle.hub_engine.proofs.Settlings.{settles_first}
use Rattle.hub_engine.proofs.legs.serve_quick.Goals as goal

pub perform_quick-requires : goal.perform_quick-requires
perform_quick-requires c =
    subst (HasRoom room_of_move) (sym c.go_under_way.ensures) (c.requires.room.any no_frame)

pub answer_running-requires : goal.answer_running-requires
answer_running-requires c =
    let asked = asked_quickly c.args.g c.args.running.now c.args.hub.now c.go_under_way.new.hub c.perform_quick.new.hub c.args.quick c.in_ok-refusal.refusal (Some c.in-Some.kind) c.requires.may_move c.requires.room c.requires.after c.go_under_way.ensures
    c.in_ok-refusal.ensures c.in-Some.is in
    record { stays = c.requires.stays; few = c.requires.to_do; declared = asked.declared; under_way = asked.under_way; settles = asked.settles }

pub answer_running-requires-in-None : goal.answer_running-requires-in-None
answer_running-requires-in-None c =
    let asked = asked_quickly c.args.g c.args.running.now c.args.hub.now c.go_under_way.new.hub c.perform_quick.new.hub c.args.quick c.in_ok-refusal.refusal None c.requires.may_move c.requires.room c.requires.after c.go_under_way.ensures
    c.in_ok-refusal.ensures c.in-None.is in
    record { stays = c.requires.stays; few = c.requires.to_do; declared = asked.declared; under_way = asked.under_way; settles = asked.settles }

pub settle_hub-requires : goal.settle_hub-requires
settle_hub-requires c =
    let asked = asked_quickly c.args.g c.args.running.now c.args.hub.now c.go_under_way.new.hub c.perform_quick.new.hub c.args.quick c.in_ok-refusal.refusal None c.requires.may_move c.requires.room c.requires.after c.go_under_way.ensures
    c.in_ok-refusal.ensures c.in-None.is in
    settles_first c.perform_quick.new.hub asked.settles

pub returns-then-is_at_move : goal.returns-then-is_at_move
returns-then-is_at_move c = λ n a s by.
    let b = c.args.running.now in
    let v = c.perform_quick.new.hub in
    let asked = asked_quickly c.args.g b c.args.hub.now c.go_under_way.new.hub v c.args.quick c.in_ok-refusal.refusal None c.requires.may_move c.requires.room c.requires.after c.go_under_way.ensures c.in_ok-refusal.ensures c.in-None.is in
    subst (λ (p : Progress). EndsBy p c.args.g n a s b c.settle_hub.new.hub) (sym c.requires.stays)
    (answers_by Progress.Stays c.args.g n a b b s c.args.hub.now c.go_under_way.new.hub v c.settle_hub.new.hub c.args.quick None by asked
    (stays_answered c.args.g b v c.settle_hub.new.hub asked.under_way c.settle_hub.ensures (record { runs = c.is_at_move.ensures c.if-is_at_move.true; unheard = c.requires.unheard; few = c.requires.to_do })))

pub returns-in_ok-answer_running-in-Some : goal.returns-in_ok-answer_running-in-Some
returns-in_ok-answer_running-in-Some c = λ n a s by.
    let b = c.args.running.now in
    let v = c.perform_quick.new.hub in
    let asked = asked_quickly c.args.g b c.args.hub.now c.go_under_way.new.hub v c.args.quick c.in_ok-refusal.refusal (Some c.in-Some.kind) c.requires.may_move c.requires.room c.requires.after c.go_under_way.ensures c.in_ok-refusal.ensures c.in-Some.is in
    answers_by _ c.args.g n a b c.answer_running.new.running s c.args.hub.now c.go_under_way.new.hub v c.answer_running.new.hub c.args.quick (Some c.in-Some.kind) by asked c.in_ok-answer_running-in-Some.ensures

pub returns-in_ok-answer_running-in-None : goal.returns-in_ok-answer_running-in-None
returns-in_ok-answer_running-in-None c = λ n a s by.
    let b = c.args.running.now in
    let v = c.perform_quick.new.hub in
    let asked = asked_quickly c.args.g b c.args.hub.now c.go_under_way.new.hub v c.args.quick c.in_ok-refusal.refusal None c.requires.may_move c.requires.room c.requires.after c.go_under_way.ensures c.in_ok-refusal.ensures c.in-None.is in
    answers_by _ c.args.g n a b c.answer_running-in-None.new.running s c.args.hub.now c.go_under_way.new.hub v c.answer_running-in-None.new.hub c.args.quick None by asked c.in_ok-answer_running-in-None.ensures
