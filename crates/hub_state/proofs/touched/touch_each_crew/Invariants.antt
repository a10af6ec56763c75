use Rattle.machine_settling.specs.Steps.{has_member}
use Rattle.hub_state.specs.Touched.{HasTouched}
use Rattle.hub_state.proofs.touched.touch_each_crew.Given as goal

abbrev pub invariant-loop-i : goal.invariant-loop-i
invariant-loop-i l = HasTouched (has_member l.g) l.objects l.i l.fn.touched l.touched
