use Rattle.std.proofs.Common.{◌++◌, List, [], ◌∷◌, ℕ, get_or, sym, subst, take}
use Rattle.std.proofs.lemmas.List.{take_all, take_more}
use Rattle.machine_settling.specs.Classes.{is_at}
use Rattle.machine_settling.specs.Steps.{nothing}
use Rattle.hub_state.specs.Found.{LooksAt, at_objects}
use Rattle.hub_state.specs.Over.{whole}
use Rattle.hub_state.proofs.Joining.{looks_as, looks_both, looks_none, no_objects, objects_apart, objects_more}
use Rattle.hub_state.proofs.Looking.{not_before}
use Rattle.hub_state.proofs.Rooms.{may_object}
use Rattle.hub_state.proofs.looks.look_at_objects.Goals as goal

pub loop-o-init : goal.loop-o-init
loop-o-init c = looks_as nothing (at_objects []) (whole c.args.base.now c.args.held.now) c.args.held.now.entries c.args.found.now c.args.found.now no_objects (looks_none (whole c.args.base.now c.args.held.now) c.args.held.now.entries c.args.found.now)

pub look_at_object-requires-clause-may : goal.look_at_object-requires-clause-may
look_at_object-requires-clause-may c =
    may_object c.args.objects.now c.loop-o.o-index (whole c.args.base.now c.args.held.now) c.args.held.now.entries c.args.found.now c.loop-o.found c.loop-o-test.true c.requires.apart c.requires.may c.loop-o.invariant

pub loop-o-preserved : goal.loop-o-preserved
loop-o-preserved c =
    let k = c.loop-o.o-index in
    let os = c.args.objects.now in
    let o = get_or os k 0 in
    subst (λ (qs : List ℕ). LooksAt (at_objects qs) (whole c.args.base.now c.args.held.now) c.args.held.now.entries c.args.found.now c.look_at_object.new.found) (sym (take_more os k 0 c.loop-o-test.true))
    (looks_both (at_objects (take k os)) (is_at o) (at_objects (take k os ++ o ∷ [])) (whole c.args.base.now c.args.held.now) c.args.held.now.entries c.args.found.now c.loop-o.found c.look_at_object.new.found
    (objects_more (take k os) o) (objects_apart (take k os) o (not_before os k 0 c.loop-o-test.true c.requires.apart)) c.loop-o.invariant c.look_at_object.ensures)

pub returns : goal.returns
returns c = subst (λ (qs : List ℕ). LooksAt (at_objects qs) (whole c.args.base.now c.args.held.now) c.args.held.now.entries c.args.found.now c.loop-o.found) (take_all c.loop-o.o-index c.args.objects.now c.loop-o-test.false) c.loop-o.invariant
