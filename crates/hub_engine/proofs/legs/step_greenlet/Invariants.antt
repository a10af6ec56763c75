use Rattle.std.proofs.Common.{◌≡◌, ◌-◌}
use Rattle.machine.specs.declared.state.Phase.{Phase}
use Rattle.machine.specs.Greenlets.{with_phase}
use Rattle.hub_engine.specs.declared.stand.Progress.{Progress}
use Rattle.hub_engine.proofs.LegByLeg.{GoesOn}
use Rattle.hub_engine.proofs.legs.step_greenlet.Given as goal

abbrev pub invariant-moves : goal.invariant-moves
invariant-moves l = GoesOn l.g l.made l.most (with_phase l.g (Phase.Live l.initial.running) l.initial.hub) l.running l.hub × (l.left ≡ Progress.Stays)

abbrev pub decreases-moves : goal.decreases-moves
decreases-moves l = l.most - l.made
