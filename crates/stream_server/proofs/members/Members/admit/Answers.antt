use Rattle.std.proofs.Common.{subst, sym}
use Rattle.stream_server.specs.Members.{AreBelow, IsRising}
use Rattle.stream_server.proofs.Rising.{rising_last}
use Rattle.stream_server.proofs.members.Members.admit.Goals as goal

pub invariant_of-self-2 : goal.invariant_of-self-2
invariant_of-self-2 c =
    subst IsRising (sym c.in_ok-push_number.ensures.ok)
    (rising_last c.args.conn c.self.inside.numbers.items (subst (AreBelow c.args.conn) (sym c.self.view_is) c.requires) c.self.invariant)
