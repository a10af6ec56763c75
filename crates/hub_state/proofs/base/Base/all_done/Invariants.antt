use Rattle.std.proofs.Common.{◌≡◌, drop}
use Rattle.machine.specs.Holds.{all_done}
use Rattle.hub_state.specs.Over.{itemless}
use Rattle.hub_state.proofs.base.Base.all_done.Given as goal

abbrev pub invariant-loop-g : goal.invariant-loop-g
invariant-loop-g l = all_done (itemless l.self) l.gs ≡ all_done (itemless l.self) (drop l.g-index l.gs)
