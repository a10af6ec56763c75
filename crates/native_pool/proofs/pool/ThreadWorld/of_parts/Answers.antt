use Rattle.std.proofs.Common.{arith, refl}
use Rattle.native_pool.proofs.PoolSteps.{sound_stopped}
use Rattle.native_pool.proofs.pool.ThreadWorld.of_parts.Goals as goal

pub invariant_of-result : goal.invariant_of-result
invariant_of-result g c = let none = c.new-4.ensures in sound_stopped _ refl (omega (arith, none))
