use Rattle.std.proofs.Common.{ap, arith, length}
use Rattle.due_timers.proofs.Timing.{tied_none, ordered_none}
use Rattle.due_timers.proofs.heap.Timers.new.Goals as goal

pub invariant_of-result : goal.invariant_of-result
invariant_of-result c =
    let z = ap length c.new.ensures.items in
    record {
      ordered = ordered_none c.new.result.items c.new.ensures.items;
      tied = tied_none c.new.result.items c.new-2.result c.new.ensures.items c.new-2.ensures;
      within = omega arith;
      fits = omega arith;
      most = omega arith;
      in_range = λ p d lt. absurd (omega arith);
    }
