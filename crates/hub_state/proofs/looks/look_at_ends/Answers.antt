use Rattle.std.proofs.Common.{◌++◌, List, [], ◌∷◌, ℕ, get_or, sym, subst, take}
use Rattle.std.proofs.lemmas.List.{take_all, take_more}
use Rattle.machine_settling.specs.Steps.{nothing}
use Rattle.held_items.specs.Waits.{is_for}
use Rattle.held_items.specs.declared.waits.Target.{Target}
use Rattle.hub_state.specs.Found.{LooksAt, for_one_of}
use Rattle.hub_state.specs.Over.{whole}
use Rattle.hub_state.proofs.Joining.{looks_as, looks_both, looks_none, no_ends, ends_apart, ends_more}
use Rattle.hub_state.proofs.Looking.{not_before}
use Rattle.hub_state.proofs.Rooms.{may_end}
use Rattle.hub_state.proofs.looks.look_at_ends.Goals as goal

pub loop-number-init : goal.loop-number-init
loop-number-init c = looks_as nothing (for_one_of []) (whole c.args.base.now c.args.held.now) c.args.held.now.entries c.args.found.now c.args.found.now no_ends (looks_none (whole c.args.base.now c.args.held.now) c.args.held.now.entries c.args.found.now)

pub look_at_target-requires : goal.look_at_target-requires
look_at_target-requires c =
    may_end c.args.ends.now c.loop-number.number-index (whole c.args.base.now c.args.held.now) c.args.held.now.entries c.args.found.now c.loop-number.found c.loop-number-test.true c.requires.apart c.requires.may c.loop-number.invariant

pub loop-number-preserved : goal.loop-number-preserved
loop-number-preserved c =
    let k = c.loop-number.number-index in
    let os = c.args.ends.now in
    let o = get_or os k 0 in
    subst (λ (qs : List ℕ). LooksAt (for_one_of qs) (whole c.args.base.now c.args.held.now) c.args.held.now.entries c.args.found.now c.look_at_target.new.found) (sym (take_more os k 0 c.loop-number-test.true))
    (looks_both (for_one_of (take k os)) (is_for (Target.One o)) (for_one_of (take k os ++ o ∷ [])) (whole c.args.base.now c.args.held.now) c.args.held.now.entries c.args.found.now c.loop-number.found c.look_at_target.new.found
    (ends_more (take k os) o) (ends_apart (take k os) o (not_before os k 0 c.loop-number-test.true c.requires.apart)) c.loop-number.invariant c.look_at_target.ensures)

pub returns : goal.returns
returns c = subst (λ (qs : List ℕ). LooksAt (for_one_of qs) (whole c.args.base.now c.args.held.now) c.args.held.now.entries c.args.found.now c.loop-number.found) (take_all c.loop-number.number-index c.args.ends.now c.loop-number-test.false) c.loop-number.invariant
