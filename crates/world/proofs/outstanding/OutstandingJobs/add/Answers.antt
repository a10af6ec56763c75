use Rattle.std.specs.Prelude.{nat_eq}
use Rattle.std.specs.HashMap.{get}
use Rattle.world.specs.Outstanding.{has_rank}
use Rattle.world.proofs.Ranking.{at_ok, ranked_more}
use Rattle.world.proofs.outstanding.OutstandingJobs.add.Goals as goal

pub invariant_of-self-else-is_err-clause-ranked : goal.invariant_of-self-else-is_err-clause-ranked
invariant_of-self-else-is_err-clause-ranked c = let w = c.args.self.now in
    ranked_more (get nat_eq w.by_number) (get nat_eq c.insert.new.self) (has_rank w.ranks) (has_rank c.insert-2.new.self) c.args.job w.ranked c.requires.new c.in_ok-insert.ensures.updates.0
    (at_ok c.insert-2.result c.if-is_err.ensures.value c.insert-2.ensures.updates).0
