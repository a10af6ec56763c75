use Rattle.std.proofs.Common.{◌+◌, ◌∙◌, ap, sym, subst}
use Rattle.machine.specs.Deliveries.{without_wait}
use Rattle.machine.specs.Request.{follows}
use Rattle.machine.specs.State.{State}
use Rattle.machine.specs.Waits.{completes}
use Rattle.machine_rooms.specs.Steps.{wait_weight}
use Rattle.machine_rooms.proofs.Requests.{completes-counts}
use Rattle.machine_trace_laws.specs.Reached.{state_of_next}
use Rattle.hub_engine.specs.Ready.{AreDeclared}
use Rattle.hub_engine.proofs.Functions.{declared_followed}
use Rattle.hub_engine.proofs.Settlings.{performed_settles, room_woken}
use Rattle.hub_engine.proofs.Soundly.{sound_woken}
use Rattle.hub_engine.proofs.deliver.wake_greenlet.Goals as goal

pub complete_wait-requires-clause-room : goal.complete_wait-requires-clause-room
complete_wait-requires-clause-room c = room_woken (2 + wait_weight c.args.waiting) c.args.g _ c.args.hub.now c.say.new.self c.drop_items.new.self c.in_ok-say.ensures c.drop_items.ensures c.requires.room

pub go_on_after-requires-clause-settles : goal.go_on_after-requires-clause-settles
go_on_after-requires-clause-settles c =
    let s = c.drop_items.new.self in
    let room = room_woken (2 + wait_weight c.args.waiting) c.args.g _ c.args.hub.now c.say.new.self s c.in_ok-say.ensures c.drop_items.ensures c.requires.room in
    performed_settles (2 + wait_weight c.args.waiting) s (completes c.args.g c.args.since c.args.waiting s) c.in_ok-performed.performed c.complete_wait.new.hub
    (λ b h. completes-counts b c.args.g c.args.since c.args.waiting s h) room c.in_ok-performed.ensures

pub complete_wait-requires-clause-may_make : goal.complete_wait-requires-clause-may_make
complete_wait-requires-clause-may_make c = sound_woken c.args.g _ c.args.hub.now c.say.new.self c.drop_items.new.self c.requires.may_make c.in_ok-say.ensures c.drop_items.ensures

pub go_on_after-requires-clause-declared : goal.go_on_after-requires-clause-declared
go_on_after-requires-clause-declared c =
    let s = c.drop_items.new.self in
    let woken = c.drop_items.ensures ∙ ap (without_wait c.args.g) c.in_ok-say.ensures in
    let after = subst (λ (x : State). AreDeclared (state_of_next (follows c.args.g (completes c.args.g c.args.since c.args.waiting x)))) (sym woken) c.requires.after in
    declared_followed c.args.g (completes c.args.g c.args.since c.args.waiting s) c.in_ok-performed.performed c.complete_wait.new.hub after c.in_ok-performed.ensures
