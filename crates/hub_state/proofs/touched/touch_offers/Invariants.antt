use Rattle.machine_settling.specs.Steps.{has_offer_by}
use Rattle.hub_state.specs.Touched.{HasTouched}
use Rattle.hub_state.proofs.touched.touch_offers.Given as goal

abbrev pub invariant-loop-i : goal.invariant-loop-i
invariant-loop-i l = HasTouched (has_offer_by l.since) l.objects l.i l.fn.touched l.touched
