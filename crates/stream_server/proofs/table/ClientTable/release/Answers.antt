use Rattle.std.proofs.Common.{subst, sym}
use Rattle.std.specs.List.{Contains}
use Rattle.stream_server.specs.Tables.{SeenTable}
use Rattle.stream_server.proofs.Tabling.{members_sound}
use Rattle.stream_server.proofs.table.ClientTable.release.Goals as goal

pub release-requires : goal.release-requires
release-requires g c = subst (λ (s : SeenTable g.row.T.Denot). Contains s.members c.args.conn) (sym c.self.view_is) c.requires

pub invariant_of-self : goal.invariant_of-self
invariant_of-self g c = members_sound c.self.inside c.release.new.self c.self.invariant
