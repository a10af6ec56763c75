use Rattle.std.proofs.Common.{rules, ap, length}
use Rattle.native_board.proofs.MadeKeep.{fresh_rest}
use Rattle.native_board.proofs.made.WorkerPasses.next.Goals as goal

pub invariant_of-self-2 : goal.invariant_of-self-2
invariant_of-self-2 c = let w = c.args.self.now in let cut = c.in_ok-pass.ensures.items in let few = w.few in let len = ap length cut in
    record { fresh = fresh_rest _ _ _ _ _ w.fresh cut; few = search rules }
