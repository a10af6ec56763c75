use Rattle.std.proofs.Common.{ℕ, subst, refl, None, arith}
use Rattle.item_places.specs.Table.{Has}
use Rattle.stream_server.specs.Tables.{SeenTable, Relists}
use Rattle.stream_server.proofs.Tabling.{key_is_held, its_number, less_sound, relists_less}
use Rattle.stream_server.proofs.table.ClientTable.remove.Goals as goal

pub returns-in_default-clause-was : goal.returns-in_default-clause-was
returns-in_default-clause-was g c = subst (λ (s : SeenTable g.row.T.Denot). (key : ℕ) → Has s.places c.args.conn key → ⊥) c.self.view_is c.in_default.ensures.absent

pub overflow_cast-key : goal.overflow_cast-key
overflow_cast-key g c =
    let below = c.self.invariant.held c.args.conn c.in-Some.key c.in-Some.ensures.found in
    let fit = c.self.invariant.keys_fit in
    omega (arith, below, fit)

pub cancel-requires : goal.cancel-requires
cancel-requires g c = c.self.invariant.timed c.args.conn c.in-Some.key c.in-Some.ensures.found

pub remove-requires-2 : goal.remove-requires-2
remove-requires-2 g c = key_is_held c.self.inside.clients c.args.conn c.in-Some.key (c.self.invariant.stands c.args.conn c.in-Some.key c.in-Some.ensures.found)

pub invariant_of-self : goal.invariant_of-self
invariant_of-self g c =
    let h = c.self.inside in
    let t = c.cancel.ensures.taken in
    less_sound h _ c.args.conn c.in-Some.key t.timer c.self.invariant c.timers_differ.ensures t.item_is t.rest
    c.in-Some.ensures.found c.remove.ensures.loses c.remove-2.ensures.updates refl c.remove-2.ensures.len c.remove-2.ensures.capacity c.remove.ensures.spare c.cancel.ensures.spare c.cancel.ensures.reach

pub returns-clause-number : goal.returns-clause-number
returns-clause-number g c =
    its_number c.self.inside.clients c.args.conn c.in-Some.key c.remove-2.result (c.self.invariant.stands c.args.conn c.in-Some.key c.in-Some.ensures.found) c.remove-2.ensures.value

pub returns-clause-relists : goal.returns-clause-relists
returns-clause-relists g c =
    let h = c.self.inside in
    let now : SeenTable g.row.T.Denot = record { places = c.remove.new.self.slots; clients = c.remove-2.new.self; members = h.members; limit = h.limit } in
    subst (λ (s : SeenTable g.row.T.Denot). Relists s now c.args.conn None) c.self.view_is
    (relists_less h.places.slots c.remove.new.self.slots h.clients c.remove-2.new.self c.args.conn c.in-Some.key c.self.invariant.stands c.in-Some.ensures.found c.remove.ensures.loses c.remove-2.ensures.updates h.members h.limit)
