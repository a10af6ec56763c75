use Rattle.std.proofs.Common.{◌≡◌, ℕ, Option, subst}
use Rattle.std.specs.Option.{option_copied}
use Rattle.item_places.specs.Table.{Has}
use Rattle.stream_server.specs.declared.client.Client.{Client}
use Rattle.stream_server.specs.Tables.{SeenTable, IsListed}
use Rattle.stream_server.proofs.Tabling.{here_listed, nobody_listed, only_listed}
use Rattle.stream_server.proofs.table.ClientTable.get.Goals as goal

pub returns-in_default-clause-here : goal.returns-in_default-clause-here
returns-in_default-clause-here g c = subst (λ (s : SeenTable g.row.T.Denot). (key : ℕ) → Has s.places c.args.conn key → ⊥) c.self.view_is c.in_default.ensures.absent

pub returns-in_default-clause-only : goal.returns-in_default-clause-only
returns-in_default-clause-only g c =
    nobody_listed c.args.self.now c.args.conn (subst (λ (s : SeenTable g.row.T.Denot). (key : ℕ) → Has s.places c.args.conn key → ⊥) c.self.view_is c.in_default.ensures.absent)

pub returns-clause-here : goal.returns-clause-here
returns-clause-here g c =
    let h = c.self.inside in
    let found = c.in-Some.ensures.found in
    subst (λ (s : SeenTable g.row.T.Denot). IsListed s c.args.conn (option_copied c.get.result)) c.self.view_is
    (here_listed h.places.slots h.clients h.members h.limit c.args.conn c.in-Some.key (option_copied c.get.result) found (c.self.invariant.stands c.args.conn c.in-Some.key found) c.get.ensures)

pub returns-clause-only : goal.returns-clause-only
returns-clause-only g c =
    let h = c.self.inside in
    subst (λ (s : SeenTable g.row.T.Denot). (slot : Option (Client g.row.T.Denot)) → IsListed s c.args.conn slot → slot ≡ option_copied c.get.result) c.self.view_is
    (only_listed h.places.slots h.clients h.members h.limit c.args.conn c.in-Some.key (option_copied c.get.result) c.in-Some.ensures.once c.in-Some.ensures.found c.get.ensures)
