use Rattle.std.proofs.Common.{ap, arith}
use Rattle.item_places.proofs.TableLemmas.{absent_after, gains_after, take_own}
use Rattle.item_places.proofs.places.Places.insert.Goals as goal

pub put-self-inside-requires-clause-absent : goal.put-self-inside-requires-clause-absent
put-self-inside-requires-clause-absent c = absent_after c.self.inside.slots.items c.make_room-free.new.slots.items c.deref_mut.result.now c.args.self.now.slots c.args.item c.make_room-free.ensures.same c.deref_mut.ensures.value (ap (λ v. v.slots) c.self.view_is) c.requires.absent

pub returns-clause-gains : goal.returns-clause-gains
returns-clause-gains c = gains_after c.args.self.now.slots c.self.inside.slots.items c.make_room-free.new.slots.items c.deref_mut.result.now c.put-self-inside.new.slots _ c.args.item c.args.place (ap (λ v. v.slots) c.self.view_is) c.make_room-free.ensures.same c.deref_mut.ensures.value c.put-self-inside.ensures.gains (take_own c.put-self-inside.new.slots _ c.make_room-free.new.slots.len (omega arith))
