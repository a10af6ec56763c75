use Rattle.std.proofs.Common.{◌≡◌, ◌<◌, ◌∙◌, sym, subst, length, arith, true, false, set, length-set}
use Rattle.number_set.specs.Sets.{SeenSet, is_among}
use Rattle.number_set.specs.SetParts.{AreMarked}
use Rattle.number_set.proofs.Marking.{place, marked_more}
use Rattle.number_set.proofs.set.NumberSet.insert.Goals as goal

pub push_reserved-requires : goal.push_reserved-requires
push_reserved-requires c =
    let m = c.self.invariant.marked in
    let h : c.args.number < length c.self.inside.is_in.items = subst (λ (s : SeenSet). c.args.number < s.room) (sym c.self.view_is) c.requires in
    let new : is_among c.args.number c.self.inside.list.items ≡ false = sym (m.marks c.args.number) ∙ (let e = c.index.ensures in let t = c.if-not-index.true in cc) in
    let p = place c.self.inside.is_in.items c.self.inside.list.items c.args.number h new m in
    let a = c.self.invariant.capacity in
    omega (arith, p, a)

pub invariant_of-self : goal.invariant_of-self
invariant_of-self c =
    let m = c.self.invariant.marked in
    let h : c.args.number < length c.self.inside.is_in.items = subst (λ (s : SeenSet). c.args.number < s.room) (sym c.self.view_is) c.requires in
    let new : is_among c.args.number c.self.inside.list.items ≡ false = sym (m.marks c.args.number) ∙ (let e = c.index.ensures in let t = c.if-not-index.true in cc) in
    let l = length-set c.self.inside.is_in.items c.args.number true in
    let a = c.self.invariant.capacity in
    let b = c.push_reserved.ensures.capacity in
    record {
      marked = subst (AreMarked (set c.self.inside.is_in.items c.args.number true)) (sym c.push_reserved.ensures.items) (marked_more c.self.inside.is_in.items c.self.inside.list.items c.args.number h new m);
      capacity = omega (arith, l, a, b);
    }
