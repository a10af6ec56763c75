use Rattle.std.proofs.Common.{◌≡◌, length}
use Rattle.world_rules.specs.Legal.{outstanding}
use Rattle.world.proofs.held.Held.fetch.Given as goal

abbrev pub invariant-loop-outcome : goal.invariant-loop-outcome
invariant-loop-outcome g l = (l.self.script ≡ l.fn.self.script) × (l.self.inner.ghost_name ≡ l.fn.self.inner.ghost_name)

abbrev pub decreases-loop-outcome : goal.decreases-loop-outcome
decreases-loop-outcome g l = let inner = g.W.World.meaning l.self.inner.now in length (outstanding inner.posts inner.answers)
