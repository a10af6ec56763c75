use Rattle.std.proofs.Common.{◌≡◌, ◌++◌, ◌∷◌, [], ◌∙◌, subst, arith, length-set}
use Rattle.number_set.specs.SetParts.{AreMarked}
use Rattle.number_set.proofs.Marking.{last_within, marked_less}
use Rattle.number_set.proofs.set.unmark.Goals as goal

pub index_mut-requires : goal.index_mut-requires
index_mut-requires c =
    let last : c.loop-number.list.items ≡ c.pop.new.self.items ++ c.in-Some.number ∷ [] = c.in-Some.ensures.items in
    let w = last_within c.loop-number.is_in.items c.pop.new.self.items c.in-Some.number (subst (AreMarked c.loop-number.is_in.items) last c.loop-number.invariant.marked) in
    let len = c.loop-number.is_in.ok.0 in
    omega (arith, w, len)

pub loop-number-preserved : goal.loop-number-preserved
loop-number-preserved c =
    let last : c.loop-number.list.items ≡ c.pop.new.self.items ++ c.in-Some.number ∷ [] = c.in-Some.ensures.items in
    record {
      marked = marked_less c.loop-number.is_in.items c.pop.new.self.items c.in-Some.number (subst (AreMarked c.loop-number.is_in.items) last c.loop-number.invariant.marked);
      room = length-set c.loop-number.is_in.items c.in-Some.number _ ∙ c.loop-number.invariant.room;
      capacity = c.pop.ensures.capacity ∙ c.loop-number.invariant.capacity;
    }
