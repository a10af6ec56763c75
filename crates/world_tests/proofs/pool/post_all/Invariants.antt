use Rattle.std.proofs.Common.{◌≡◌, ℕ, ◌≤◌, true, false}
use Rattle.world_rules.specs.Legal.{is_posted}
use Rattle.world_tests.proofs.pool.post_all.Given as goal

abbrev pub invariant-loop-number : goal.invariant-loop-number
invariant-loop-number g l = record {
  runs : (g.W.World.meaning l.world).runs ≡ true;
  new : (k : ℕ) → l.number ≤ k → is_posted k (g.W.World.meaning l.world).posts ≡ false;
}
