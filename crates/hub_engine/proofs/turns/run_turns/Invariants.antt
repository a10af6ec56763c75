use Rattle.std.proofs.Common.{◌≡◌, ◌+◌, ◌≤◌, false}
use Rattle.gv_values.specs.declared.limits.TheConstants.{MOST_TURNS}
use Rattle.hub_engine.specs.Outside.{outside}
use Rattle.hub_engine.specs.Tied.{IsTied}
use Rattle.hub_engine.specs.Written.{IsRunning, from_turn}
use Rattle.hub_engine.proofs.turns.run_turns.Given as goal

abbrev pub invariant-loop-left : goal.invariant-loop-left
invariant-loop-left g l =
    IsRunning (outside g.W.World g.K.Sink l.initial.world l.initial.sink)
    (outside g.W.World g.K.Sink l.world l.sink)
    (from_turn l.turns l.moves l.initial.hub) (from_turn l.left l.moves l.hub)
    × (g.K.Sink.faults l.sink ≡ g.K.Sink.faults l.initial.sink) × IsTied false l.hub.turns (g.W.World.meaning l.world) l.hub × (l.hub.turns + l.left ≤ MOST_TURNS)

abbrev pub decreases-loop-left : goal.decreases-loop-left
decreases-loop-left g l = l.left
