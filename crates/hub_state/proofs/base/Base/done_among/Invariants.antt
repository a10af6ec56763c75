use Rattle.std.proofs.Common.{◌≡◌, take}
use Rattle.machine.specs.Holds.{done_among}
use Rattle.hub_state.specs.Over.{itemless}
use Rattle.hub_state.proofs.base.Base.done_among.Given as goal

abbrev pub invariant-loop-g : goal.invariant-loop-g
invariant-loop-g l = l.n ≡ done_among (itemless l.self) (take l.g-index l.gs)
