use Rattle.std.proofs.Common.{◌≡◌, ◌+◌, ◌≤◌}
use Rattle.gv_values.specs.declared.limits.TheConstants.{MOST_MOVES}
use Rattle.machine.specs.Run.{runs}
use Rattle.hub_engine.specs.Outside.{outside}
use Rattle.hub_engine.specs.Stands.{next_at}
use Rattle.hub_engine.specs.Tied.{StaysTied}
use Rattle.hub_engine.proofs.Passing.{IsPassing}
use Rattle.hub_engine.proofs.turns.run_greenlet.Given as goal

abbrev pub invariant-loop-text : goal.invariant-loop-text
invariant-loop-text g l =
    IsPassing (outside g.W.World g.K.Sink l.initial.world l.initial.sink)
    (outside g.W.World g.K.Sink l.world l.sink)
    (runs l.moves (next_at l.fn.at l.initial.hub)) (runs l.left (next_at l.at l.hub))
    × (g.K.Sink.faults l.sink ≡ g.K.Sink.faults l.initial.sink)
    × StaysTied (g.W.World.meaning l.initial.world) (next_at l.fn.at l.initial.hub) (g.W.World.meaning l.world) (next_at l.at l.hub)
    × (l.hub.moves + l.left ≤ MOST_MOVES)

abbrev pub decreases-loop-text : goal.decreases-loop-text
decreases-loop-text g l = l.left
