use Rattle.std.proofs.Common.{subst, sym}
use Rattle.stream_server.specs.Members.{AreBelow}
use Rattle.stream_server.specs.Tables.{SeenTable}
use Rattle.stream_server.proofs.Tabling.{members_sound}
use Rattle.stream_server.proofs.table.ClientTable.admit.Goals as goal

pub admit-requires : goal.admit-requires
admit-requires g c = subst (λ (s : SeenTable g.row.T.Denot). AreBelow c.args.conn s.members) (sym c.self.view_is) c.requires.rising

pub invariant_of-self : goal.invariant_of-self
invariant_of-self g c = members_sound c.self.inside c.admit.new.self c.self.invariant
