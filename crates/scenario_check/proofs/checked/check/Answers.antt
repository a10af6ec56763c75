use Rattle.std.proofs.Common.{◌≡◌, ◌∙◌, ap, sym, Some, None}
use Rattle.scenario_rules.specs.Rules.{place_of}
use Rattle.scenario_check.proofs.FirstPlace.{well_formed, not_well_formed}
use Rattle.scenario_check.proofs.checked.check.Goals as goal

pub invariant_of-result : goal.invariant_of-result
invariant_of-result c = (well_formed c.args.scenario (ap place_of (sym c.tree.ensures.same) ∙ sym c.in_ok-place.ensures ∙ c.in-None.is), c.tree.ensures.written.main)

pub returns-in-None-clause-well_formed : goal.returns-in-None-clause-well_formed
returns-in-None-clause-well_formed c = well_formed c.args.scenario (ap place_of (sym c.tree.ensures.same) ∙ sym c.in_ok-place.ensures ∙ c.in-None.is)

pub returns-in-Some-clause-refused : goal.returns-in-Some-clause-refused
returns-in-Some-clause-refused c =
    let placed : place_of c.args.scenario ≡ Some c.in-Some.place = ap place_of (sym c.tree.ensures.same) ∙ sym c.in_ok-place.ensures ∙ c.in-Some.is in
    (placed, not_well_formed c.args.scenario c.in-Some.place placed)
