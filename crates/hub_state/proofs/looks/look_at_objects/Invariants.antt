use Rattle.std.proofs.Common.{take}
use Rattle.hub_state.specs.Found.{LooksAt, at_objects}
use Rattle.hub_state.specs.Over.{whole}
use Rattle.hub_state.proofs.looks.look_at_objects.Given as goal

abbrev pub invariant-loop-o : goal.invariant-loop-o
invariant-loop-o l = LooksAt (at_objects (take l.o-index l.objects)) (whole l.base l.held) l.held.entries l.fn.found l.found
