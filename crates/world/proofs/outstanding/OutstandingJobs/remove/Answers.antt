use Rattle.std.proofs.Common.{sym}
use Rattle.std.specs.Prelude.{nat_eq}
use Rattle.std.specs.HashMap.{get}
use Rattle.world.specs.Outstanding.{has_rank}
use Rattle.world.proofs.Ranking.{ranked_less}
use Rattle.world.proofs.outstanding.OutstandingJobs.remove.Goals as goal

pub invariant_of-self-clause-ranked : goal.invariant_of-self-clause-ranked
invariant_of-self-clause-ranked c = let w = c.args.self.now in
    ranked_less (get nat_eq w.by_number) (get nat_eq c.remove.new.self) (has_rank w.ranks) (has_rank c.remove-in-Some.new.self) c.in-Some.job c.args.number w.ranked (sym c.in-Some.ensures.value) c.in-Some.ensures.updates.0
    c.remove-in-Some.ensures.updates.0
