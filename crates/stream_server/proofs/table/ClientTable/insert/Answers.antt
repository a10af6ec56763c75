use Rattle.std.proofs.Common.{◌+◌, ◌≤◌, ℕ, subst, sym, arith, Some}
use Rattle.std.proofs.lemmas.List.Sorted.{length_permutation}
use Rattle.slab.specs.Slab.{slab_len}
use Rattle.item_places.specs.Table.{Has}
use Rattle.stream_server.specs.Tables.{SeenTable, IsAbsent, Relists, client_count}
use Rattle.stream_server.proofs.Tabling.{stands_more, all_tied_more, timed_more, relists_more, no_timer, no_place, held_more}
use Rattle.stream_server.proofs.table.ClientTable.insert.Goals as goal

pub add-requires-clause-within : goal.add-requires-clause-within
add-requires-clause-within g c =
    let put = c.insert_reserved-key.ensures in
    let k = c.self.invariant.keys in
    omega (arith, k, put.key_in_range, put.capacity)

pub add-requires-clause-absent : goal.add-requires-clause-absent
add-requires-clause-absent g c =
    let h = c.self.inside in
    no_timer h.places.slots h.clients h.timers.timers c.insert_reserved-key.result c.self.invariant.tied c.insert_reserved-key.ensures.was_vacant

pub insert-requires-clause-absent : goal.insert-requires-clause-absent
insert-requires-clause-absent g c =
    let h = c.self.inside in
    no_place h.places.slots h.clients h.members h.limit c.args.client.conn c.self.invariant.stands (subst (λ (s : SeenTable g.row.T.Denot). IsAbsent s c.args.client.conn) (sym c.self.view_is) c.requires.absent)

pub invariant_of-self : goal.invariant_of-self
invariant_of-self g c =
    let h = c.self.inside in
    let was = c.self.invariant in
    let absent : (j : ℕ) → Has h.places.slots c.args.client.conn j → ⊥ =
    no_place h.places.slots h.clients h.members h.limit c.args.client.conn was.stands (subst (λ (s : SeenTable g.row.T.Denot). IsAbsent s c.args.client.conn) (sym c.self.view_is) c.requires.absent) in
    let add = c.add.ensures in
    let put = c.insert_reserved-key.ensures in
    let place = c.insert.ensures in
    let long = length_permutation _ c.add.new.self.timers add.added in
    let fits : slab_len h.clients + 1 ≤ h.limit = subst (λ (s : SeenTable g.row.T.Denot). client_count s + 1 ≤ s.limit) (sym c.self.view_is) (omega (arith, c.requires.place)) in
    record {
      stands = stands_more h.places.slots c.insert.new.self.slots h.clients c.insert_reserved-key.new.self c.args.client c.insert_reserved-key.result was.stands place.gains put.was_vacant put.updates;
      timed = timed_more h.places.slots c.insert.new.self.slots h.clients c.insert_reserved-key.new.self c.args.client c.insert_reserved-key.result was.stands absent place.gains put.was_vacant put.updates 0 h.timers.timers c.add.new.self.timers add.added was.timed;
      tied = all_tied_more h.places.slots c.insert.new.self.slots h.clients c.insert_reserved-key.new.self c.args.client c.insert_reserved-key.result was.stands absent place.gains put.was_vacant put.updates 0 h.timers.timers c.add.new.self.timers add.added was.tied;
      count = omega (arith, long, was.count, put.len);
      few = omega (arith, fits, put.len);
      room = omega (arith, was.room, put.capacity);
      places_room = omega (arith, was.places_room, place.spare, put.len);
      timers_room = omega (arith, was.timers_room, add.spare, put.len);
      keys = omega (arith, was.keys, add.reach, put.capacity);
      keys_fit = omega (arith, was.keys_fit, put.capacity);
      held = held_more h.places.slots c.insert.new.self.slots c.args.client.conn c.insert_reserved-key.result h.clients.capacity c.insert_reserved-key.new.self.capacity was.held place.gains put.key_in_range put.capacity;
    }

pub returns-clause-relists : goal.returns-clause-relists
returns-clause-relists g c =
    let h = c.self.inside in
    let was = c.self.invariant in
    let absent : (j : ℕ) → Has h.places.slots c.args.client.conn j → ⊥ =
    no_place h.places.slots h.clients h.members h.limit c.args.client.conn was.stands (subst (λ (s : SeenTable g.row.T.Denot). IsAbsent s c.args.client.conn) (sym c.self.view_is) c.requires.absent) in
    let put = c.insert_reserved-key.ensures in
    let place = c.insert.ensures in
    let now : SeenTable g.row.T.Denot = record { places = c.insert.new.self.slots; clients = c.insert_reserved-key.new.self; members = h.members; limit = h.limit } in
    subst (λ (s : SeenTable g.row.T.Denot). Relists s now c.args.client.conn (Some c.args.client)) c.self.view_is
    (relists_more h.places.slots c.insert.new.self.slots h.clients c.insert_reserved-key.new.self c.args.client c.insert_reserved-key.result was.stands absent place.gains put.was_vacant put.updates h.members h.limit)
