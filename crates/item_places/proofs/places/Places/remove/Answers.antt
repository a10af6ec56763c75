use Rattle.std.proofs.Common.{ap, arith, ◌∙◌, sym, ◌≡◌, ◌<◌, subst, set, length, length-set}
use Rattle.item_places.specs.declared.places.Slot.TheVariants.{Dead}
use Rattle.item_places.specs.Table.{HeldAt, Loses}
use Rattle.item_places.proofs.TableLemmas.{held_dropped, held_within, table_dropped, dropped_counts}
use Rattle.item_places.proofs.places.Places.remove.Goals as goal

pub invariant_of-self : goal.invariant_of-self
invariant_of-self c =
    let xs = c.self.inside.slots.items in
    let at = c.in-Some.at in
    let k = c.in-Some.ensures.found.1.0 in
    let here : HeldAt xs at c.args.item k = subst (λ l. HeldAt l at c.args.item k) c.deref.ensures.value c.in-Some.ensures.found.1.1 in
    let within : at < length xs = held_within xs at c.args.item k here in
    let long : length (set xs at Dead) ≡ length xs = length-set xs at Dead in
    let fewer = dropped_counts xs at c.args.item k here in
    let n = c.self.invariant.count in
    record {
      table = table_dropped xs c.self.inside.homes c.self.inside.free at c.args.item k c.self.invariant.table here;
      count = omega arith;
      within = let m = c.self.invariant.within in omega arith;
      size = λ some. let s = c.self.invariant.size some in omega arith;
      some_home = c.self.invariant.some_home;
      bare = λ z. let e = ap length (c.self.invariant.bare z) in absurd (omega arith);
      twin = c.self.invariant.twin ∙ sym long;
    }

pub returns-clause-loses : goal.returns-clause-loses
returns-clause-loses c =
    let xs = c.self.inside.slots.items in
    let at = c.in-Some.at in
    let k = c.in-Some.ensures.found.1.0 in
    let here : HeldAt xs at c.args.item k = subst (λ l. HeldAt l at c.args.item k) c.deref.ensures.value c.in-Some.ensures.found.1.1 in
    subst (λ (l : _). Loses l (set xs at Dead) c.args.item) (ap (λ v. v.slots) c.self.view_is) (held_dropped xs at c.args.item k c.self.invariant.table.once here)
