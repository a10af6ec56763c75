use Rattle.std.proofs.Common.{ap, arith, ◌∙◌, sym, ◌≡◌, ◌<◌, subst, set, length, length-set}
use Rattle.item_places.specs.declared.places.Slot.TheVariants.{Held}
use Rattle.item_places.specs.Table.{HeldAt, Moves}
use Rattle.item_places.proofs.TableLemmas.{held_moved, held_within, table_moved, moved_counts}
use Rattle.item_places.proofs.places.Places.set.Goals as goal

pub invariant_of-self : goal.invariant_of-self
invariant_of-self c =
    let xs = c.self.inside.slots.items in
    let at = c.in-Some.at in
    let k = c.in-Some.ensures.found.1.0 in
    let here : HeldAt xs at c.args.item k = subst (λ l. HeldAt l at c.args.item k) c.deref.ensures.value c.in-Some.ensures.found.1.1 in
    let within : at < length xs = held_within xs at c.args.item k here in
    let long : length (set xs at (Held c.args.item c.args.place)) ≡ length xs = length-set xs at (Held c.args.item c.args.place) in
    let same = moved_counts xs at c.args.item k c.args.place here in
    let n = c.self.invariant.count in
    record {
      table = table_moved xs at c.args.item k c.args.place here c.self.inside.homes c.self.inside.free c.self.invariant.table;
      count = omega arith;
      within = c.self.invariant.within;
      size = λ some. let s = c.self.invariant.size some in omega arith;
      some_home = c.self.invariant.some_home;
      bare = λ z. let e = ap length (c.self.invariant.bare z) in absurd (omega arith);
      twin = c.self.invariant.twin ∙ sym long;
    }

pub returns-clause-moves : goal.returns-clause-moves
returns-clause-moves c =
    let xs = c.self.inside.slots.items in
    let at = c.in-Some.at in
    let k = c.in-Some.ensures.found.1.0 in
    let here : HeldAt xs at c.args.item k = subst (λ l. HeldAt l at c.args.item k) c.deref.ensures.value c.in-Some.ensures.found.1.1 in
    subst (λ (l : _). Moves l (set xs at (Held c.args.item c.args.place)) c.args.item c.args.place) (ap (λ v. v.slots) c.self.view_is) (held_moved xs at c.args.item k c.args.place here c.self.invariant.table.once)
