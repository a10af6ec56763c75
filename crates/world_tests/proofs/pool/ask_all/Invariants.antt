use Rattle.std.proofs.Common.{◌≡◌, true}
use Rattle.world_tests.proofs.pool.ask_all.Given as goal

abbrev pub invariant-loop-asked : goal.invariant-loop-asked
invariant-loop-asked g l = (g.W.World.meaning l.world).runs ≡ true
