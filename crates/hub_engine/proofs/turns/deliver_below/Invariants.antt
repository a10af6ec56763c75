use Rattle.std.proofs.Common.{◌≡◌, true}
use Rattle.machine.specs.Run.{deliveries}
use Rattle.hub_engine.specs.Outside.{outside}
use Rattle.hub_engine.specs.Tied.{IsTied}
use Rattle.hub_engine.proofs.Passing.{IsPassing}
use Rattle.hub_engine.proofs.turns.deliver_below.Given as goal

abbrev pub invariant-loop-left : goal.invariant-loop-left
invariant-loop-left g l =
    IsPassing (outside g.W.World g.K.Sink l.initial.world l.initial.sink)
    (outside g.W.World g.K.Sink l.world l.sink)
    (deliveries l.due.most l.budget l.due.mark l.initial.hub) (deliveries l.left l.budget l.due.mark l.hub)
    × (g.K.Sink.faults l.sink ≡ g.K.Sink.faults l.initial.sink) × IsTied true l.initial.hub.turns (g.W.World.meaning l.world) l.hub

abbrev pub decreases-loop-left : goal.decreases-loop-left
decreases-loop-left g l = l.left
