use Rattle.std.proofs.Common.{◌≡◌, length}
use Rattle.machine.specs.Landing.{land}
use Rattle.hub_engine.specs.Ready.{AreDeclared}
use Rattle.hub_engine.specs.Settlings.{MaySettle}
use Rattle.hub_engine.proofs.life.land.Given as goal

abbrev pub invariant-loop-left : goal.invariant-loop-left
invariant-loop-left l = record {
  same : land (length l.initial.hub.greenlets) l.fn.g l.fn.input l.initial.hub ≡ land l.left l.at l.input l.hub;
  declared : AreDeclared l.hub;
  settles : MaySettle l.left l.hub;
}

abbrev pub decreases-loop-left : goal.decreases-loop-left
decreases-loop-left l = l.left
