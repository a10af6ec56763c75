use Rattle.std.proofs.Common.{subst}
use Rattle.machine.specs.Bodies.{around}
use Rattle.body_frames.specs.declared.stack.Made.{Made}
use Rattle.body_frames.specs.Runs.{HasMoved}
use Rattle.body_frames.specs.Standings.{body_after}
use Rattle.body_frames.specs.Steady.{IsSteady}
use Rattle.body_frames.proofs.Arriving.{asked_as, came_as, entered_on, entering_few}
use Rattle.body_frames.proofs.running.Running.step.Goals as goal

pub returns-in-Asks : goal.returns-in-Asks
returns-in-Asks g c =
    let u = c.deref.result.now in
    let old = c.self.inside.stack in
    let s = c.make_any_move-made.new.stack in
    let near = around c.args.code.now (g.L.Look.answers c.args.look.now) in
    asked_as c.self.inside.blocks.value u c.args.self.now old c.self.inside.gives near c.args.timeout c.in-Asks.request c.in-Asks.gives s c.deref.ensures c.self.view_is c.requires
    (subst (λ (m : Made). HasMoved u near old m s) c.in-Asks.is c.in_ok-request.ensures.made)

pub returns-in-Further : goal.returns-in-Further
returns-in-Further g c =
    let u = c.deref.result.now in
    let old = c.self.inside.stack in
    let s = c.make_any_move-made.new.stack in
    let near = around c.args.code.now (g.L.Look.answers c.args.look.now) in
    came_as c.self.inside.blocks.value u c.args.self.now old c.self.inside.gives near c.args.timeout c.in-Further.at s c.take_left-left.result c.destination_of-in-Further.result c.deref.ensures
    c.self.view_is c.requires (subst (λ (m : Made). HasMoved u near old m s) c.in-Further.is c.in_ok-request.ensures.made)
    (subst (λ (m : Made). IsSteady (body_after u m s)) c.in-Further.is c.in_ok-request.ensures.steady) c.take_left-left.ensures.taken c.destination_of-in-Further.ensures

pub go_inside-at-requires-clause-few : goal.go_inside-at-requires-clause-few
go_inside-at-requires-clause-few g c =
    let u = c.deref.result.now in
    let old = c.self.inside.stack in
    let s = c.make_any_move-made.new.stack in
    let near = around c.args.code.now (g.L.Look.answers c.args.look.now) in
    (entering_few c.self.inside.blocks.value u c.deref-in-Enters.result.now c.args.self.now old c.self.inside.gives near c.in-Enters.time c.in-Enters.silent c.in-Enters.body s c.deref.ensures
    c.deref-in-Enters.ensures c.self.view_is c.requires (subst (λ (m : Made). HasMoved u near old m s) c.in-Enters.is c.in_ok-request.ensures.made)).1

pub go_inside-at-requires-clause-inside : goal.go_inside-at-requires-clause-inside
go_inside-at-requires-clause-inside g c =
    let u = c.deref.result.now in
    let old = c.self.inside.stack in
    let s = c.make_any_move-made.new.stack in
    let near = around c.args.code.now (g.L.Look.answers c.args.look.now) in
    (entering_few c.self.inside.blocks.value u c.deref-in-Enters.result.now c.args.self.now old c.self.inside.gives near c.in-Enters.time c.in-Enters.silent c.in-Enters.body s c.deref.ensures
    c.deref-in-Enters.ensures c.self.view_is c.requires (subst (λ (m : Made). HasMoved u near old m s) c.in-Enters.is c.in_ok-request.ensures.made)).0

pub returns-in_ok-at-in-Enters : goal.returns-in_ok-at-in-Enters
returns-in_ok-at-in-Enters g c =
    let u = c.deref.result.now in
    let old = c.self.inside.stack in
    let s = c.make_any_move-made.new.stack in
    let near = around c.args.code.now (g.L.Look.answers c.args.look.now) in
    entered_on c.self.inside.blocks.value u c.deref-in-Enters.result.now c.args.self.now old c.self.inside.gives near c.args.timeout c.in-Enters.time c.in-Enters.silent c.in-Enters.body s
    c.in_ok-at-in-Enters.field-0 c.go_inside-at.new.stack c.take_left-left-in-Enters.result c.destination_of.result c.deref.ensures c.deref-in-Enters.ensures c.self.view_is
    (subst (λ (m : Made). HasMoved u near old m s) c.in-Enters.is c.in_ok-request.ensures.made) c.in_ok-at-in-Enters.ensures.goes c.in_ok-at-in-Enters.ensures.moves
    c.in_ok-at-in-Enters.ensures.few c.take_left-left-in-Enters.ensures.taken c.destination_of.ensures
