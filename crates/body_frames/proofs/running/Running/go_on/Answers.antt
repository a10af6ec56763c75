use Rattle.std.proofs.Common.{[]}
use Rattle.machine.specs.declared.state.Leaving.{Leaving}
use Rattle.machine.specs.Unwinding.{unwind}
use Rattle.body_frames.proofs.Arriving.{arrives_as}
use Rattle.body_frames.proofs.Coming.{few_shared, goes_as}
use Rattle.body_frames.proofs.running.Running.go_on.Goals as goal

pub returns : goal.returns
returns c =
    let t = c.self.inside.blocks.value in
    let u = c.deref.result.now in
    let f = c.args.self.now in
    let old = c.self.inside.stack in
    let x = c.self.inside.gives in
    let new = c.go_inwards-at.new.stack in
    arrives_as t u c.in_ok-at.field-0 new c.take_left-left.result (unwind f.todo [] Leaving.Normally f.locals) c.destination_of.result c.deref.ensures c.take_left-left.ensures.taken
    (goes_as t u f old x c.in_ok-at.field-0 new c.deref.ensures c.self.view_is c.self.invariant c.in_ok-at.ensures.left)
    c.in_ok-at.ensures.moves (c.in_ok-at.ensures.few (few_shared t u f old x c.deref.ensures c.self.view_is c.requires)) c.destination_of.ensures
