use Rattle.std.proofs.Common.{[]}
use Rattle.machine.specs.declared.state.Leaving.{Leaving}
use Rattle.machine.specs.Unwinding.{unwind}
use Rattle.body_frames.specs.Places.{place_of}
use Rattle.hub_engine.proofs.legs.go_on_into.Goals as goal

pub returns : goal.returns
returns c =
    let b = c.args.running.now in
    c.in_ok-come_to.ensures (place_of (unwind b.todo [] Leaving.Normally b.locals)) c.go_on.new.self c.in_ok-to.ensures
