use Rattle.std.proofs.Common.{[]}
use Rattle.machine.specs.Ends.{leaving_of}
use Rattle.machine.specs.Landing.{given}
use Rattle.machine.specs.Unwinding.{unwind}
use Rattle.body_frames.proofs.Arriving.{arrives_as}
use Rattle.body_frames.proofs.Coming.{answered_as, few_shared}
use Rattle.body_frames.proofs.running.Running.answer.Goals as goal

pub go_on_with-at-requires-clause-few : goal.go_on_with-at-requires-clause-few
go_on_with-at-requires-clause-few c =
    few_shared c.self.inside.blocks.value c.deref.result.now c.args.self.now c.self.inside.stack c.self.inside.gives c.deref.ensures c.self.view_is c.requires

pub returns : goal.returns
returns c =
    let t = c.self.inside.blocks.value in
    let u = c.deref.result.now in
    let f = c.args.self.now in
    let old = c.self.inside.stack in
    let new = c.go_on_with-at.new.stack in
    arrives_as t u c.in_ok-at.field-0 new c.take_left-left.result (unwind f.todo [] (leaving_of c.args.answer) (given f c.args.answer)) c.destination_of.result c.deref.ensures
    c.take_left-left.ensures.taken
    (answered_as t u f old.locals old.todo c.self.inside.gives c.args.answer c.in_ok-at.field-0 new c.deref.ensures c.self.view_is c.in_ok-at.ensures.goes)
    c.in_ok-at.ensures.moves c.in_ok-at.ensures.few c.destination_of.ensures
