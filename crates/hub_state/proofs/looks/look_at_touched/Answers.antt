use Rattle.std.proofs.Common.{Bool, List, subst, sym, ℕ}
use Rattle.hub_state.specs.Found.{LooksAt, MayLookAt, at_objects, for_one_of, for_several}
use Rattle.hub_state.specs.Over.{whole}
use Rattle.hub_state.proofs.Joining.{looks_touched}
use Rattle.hub_state.proofs.Rooms.{may_always, may_ends, may_objects, may_several}
use Rattle.hub_state.proofs.looks.look_at_touched.Goals as goal

pub look_at_made-requires-clause-may : goal.look_at_made-requires-clause-may
look_at_made-requires-clause-may c =
    let s = whole c.args.base.now c.args.held.now in
    (s, may_always c.args.touched.now s c.args.held.now.entries c.args.found.now c.requires.may)

pub look_at_several-requires : goal.look_at_several-requires
look_at_several-requires c =
    let s = whole c.args.base.now c.args.held.now in
    let es = c.args.held.now.entries in
    let x1 = c.look_at_made.new.found in
    subst (λ (touched : Bool). MayLookAt (for_several touched) s es x1) (sym c.several.ensures) (may_several c.args.touched.now s es c.args.found.now x1 c.requires.may (c.look_at_made.ensures s))

pub look_at_ends-requires-clause-may : goal.look_at_ends-requires-clause-may
look_at_ends-requires-clause-may c =
    let s = whole c.args.base.now c.args.held.now in
    let es = c.args.held.now.entries in
    let x1 = c.look_at_made.new.found in
    let x2 = c.look_at_several.new.found in
    subst (λ (ns : List ℕ). MayLookAt (for_one_of ns) s es x2) (sym c.ends.ensures.list)
    (may_ends c.args.touched.now s es c.args.found.now x1 x2 c.requires.may (c.look_at_made.ensures s) (subst (λ (touched : Bool). LooksAt (for_several touched) s es x1 x2) c.several.ensures c.look_at_several.ensures))

pub look_at_objects-requires-clause-may : goal.look_at_objects-requires-clause-may
look_at_objects-requires-clause-may c =
    let s = whole c.args.base.now c.args.held.now in
    let es = c.args.held.now.entries in
    let x1 = c.look_at_made.new.found in
    let x2 = c.look_at_several.new.found in
    let x3 = c.look_at_ends.new.found in
    subst (λ (os : List ℕ). MayLookAt (at_objects os) s es x3) (sym c.objects.ensures.list)
    (may_objects c.args.touched.now s es c.args.found.now x1 x2 x3 c.requires.may (c.look_at_made.ensures s) (subst (λ (touched : Bool). LooksAt (for_several touched) s es x1 x2) c.several.ensures c.look_at_several.ensures)
    (subst (λ (ns : List ℕ). LooksAt (for_one_of ns) s es x2 x3) c.ends.ensures.list c.look_at_ends.ensures))

pub returns : goal.returns
returns c =
    let s = whole c.args.base.now c.args.held.now in
    let es = c.args.held.now.entries in
    let x1 = c.look_at_made.new.found in
    let x2 = c.look_at_several.new.found in
    let x3 = c.look_at_ends.new.found in
    let x4 = c.look_at_objects.new.found in
    looks_touched c.args.touched.now s es c.args.found.now x1 x2 x3 x4
    (record {
      always = c.look_at_made.ensures s;
      several = subst (λ (touched : Bool). LooksAt (for_several touched) s es x1 x2) c.several.ensures c.look_at_several.ensures;
      ends = subst (λ (ns : List ℕ). LooksAt (for_one_of ns) s es x2 x3) c.ends.ensures.list c.look_at_ends.ensures;
      objects = subst (λ (os : List ℕ). LooksAt (at_objects os) s es x3 x4) c.objects.ensures.list c.look_at_objects.ensures;
    })
