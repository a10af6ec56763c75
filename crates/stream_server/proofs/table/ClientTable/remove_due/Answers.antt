use Rattle.std.proofs.Common.{◌<◌, subst, sym, refl, Some, None}
use Rattle.stream_server.specs.Tables.{SeenTable, IsListed, Relists}
use Rattle.stream_server.proofs.Tabling.{due_client, due_is_held, due_here, less_sound, listed_deadline, relists_less}
use Rattle.stream_server.proofs.table.ClientTable.remove_due.Goals as goal

pub remove-client-requires : goal.remove-client-requires
remove-client-requires g c =
    let h = c.self.inside in
    let t = c.in-Some.ensures.taken in
    due_is_held h.places.slots h.clients c.in-Some.key c.args.now (due_client h.places.slots h.clients h.timers.timers _ t.timer c.in-Some.key c.args.now c.self.invariant.tied t.rest t.item_is t.holds.0)

pub remove-requires : goal.remove-requires
remove-requires g c =
    let h = c.self.inside in
    let t = c.in-Some.ensures.taken in
    (c.in-Some.key, (due_here h.places.slots h.clients c.in-Some.key c.args.now c.remove-client.result (due_client h.places.slots h.clients h.timers.timers _ t.timer c.in-Some.key c.args.now c.self.invariant.tied t.rest t.item_is t.holds.0) c.remove-client.ensures.value).0)

pub invariant_of-self-2 : goal.invariant_of-self-2
invariant_of-self-2 g c =
    let h = c.self.inside in
    let t = c.in-Some.ensures.taken in
    let here = due_here h.places.slots h.clients c.in-Some.key c.args.now c.remove-client.result (due_client h.places.slots h.clients h.timers.timers _ t.timer c.in-Some.key c.args.now c.self.invariant.tied t.rest t.item_is t.holds.0) c.remove-client.ensures.value in
    less_sound h _ c.remove-client.result.conn c.in-Some.key t.timer c.self.invariant c.timers_differ.ensures t.item_is t.rest
    here.0 c.remove.ensures.loses c.remove-client.ensures.updates refl c.remove-client.ensures.len c.remove-client.ensures.capacity c.remove.ensures.spare c.in-Some.ensures.spare c.take_due.ensures.reach

pub returns-clause-was : goal.returns-clause-was
returns-clause-was g c =
    let h = c.self.inside in
    let t = c.in-Some.ensures.taken in
    let here = due_here h.places.slots h.clients c.in-Some.key c.args.now c.remove-client.result (due_client h.places.slots h.clients h.timers.timers _ t.timer c.in-Some.key c.args.now c.self.invariant.tied t.rest t.item_is t.holds.0) c.remove-client.ensures.value in
    subst (λ (s : SeenTable g.row.T.Denot). IsListed s c.remove-client.result.conn (Some c.remove-client.result)) c.self.view_is (c.in-Some.key, here.0, c.remove-client.ensures.value)

pub returns-clause-due : goal.returns-clause-due
returns-clause-due g c =
    let h = c.self.inside in
    let t = c.in-Some.ensures.taken in
    (due_here h.places.slots h.clients c.in-Some.key c.args.now c.remove-client.result (due_client h.places.slots h.clients h.timers.timers _ t.timer c.in-Some.key c.args.now c.self.invariant.tied t.rest t.item_is t.holds.0) c.remove-client.ensures.value).1

pub returns-clause-relists : goal.returns-clause-relists
returns-clause-relists g c =
    let h = c.self.inside in
    let t = c.in-Some.ensures.taken in
    let here = due_here h.places.slots h.clients c.in-Some.key c.args.now c.remove-client.result (due_client h.places.slots h.clients h.timers.timers _ t.timer c.in-Some.key c.args.now c.self.invariant.tied t.rest t.item_is t.holds.0) c.remove-client.ensures.value in
    let now : SeenTable g.row.T.Denot = record { places = c.remove.new.self.slots; clients = c.remove-client.new.self; members = h.members; limit = h.limit } in
    subst (λ (s : SeenTable g.row.T.Denot). Relists s now c.remove-client.result.conn None) c.self.view_is
    (relists_less h.places.slots c.remove.new.self.slots h.clients c.remove-client.new.self c.remove-client.result.conn c.in-Some.key c.self.invariant.stands here.0 c.remove.ensures.loses c.remove-client.ensures.updates h.members h.limit)

pub returns-in_default-clause-none : goal.returns-in_default-clause-none
returns-in_default-clause-none g c = λ k client listed.
    let h = c.self.inside in
    listed_deadline (λ n. c.args.now < n) h k client c.self.invariant (c.take_due.ensures.none.0 c.in_default.is)
    (subst (λ (s : SeenTable g.row.T.Denot). IsListed s k (Some client)) (sym c.self.view_is) listed)
