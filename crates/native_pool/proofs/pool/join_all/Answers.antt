use Rattle.std.proofs.Common.{arith, ◌<◌, length}
use Rattle.std.proofs.lemmas.Grind.{common_steps}
use Rattle.native_pool.proofs.StartSteps.{first_off}
use Rattle.native_pool.proofs.StopSteps.{joins_next}
use Rattle.native_pool.proofs.pool.join_all.Goals as goal

pub loop-spawner-preserved : goal.loop-spawner-preserved
loop-spawner-preserved g c =
    let some : 0 < length c.loop-spawner.starts.items = grind (arith, common_steps) in
    joins_next g.S.Spawner.running_cell g.S.Spawner.refused_cell c.loop-spawner.starts.items c.remove.new.self.items c.remove.result (g.S.Spawner.joins c.loop-spawner.spawner)
    (g.S.Spawner.joins c.join_start.new.spawner) _ (first_off c.loop-spawner.starts.items c.remove.new.self.items c.remove.result some c.remove.ensures.value c.remove.ensures.items)
    c.join_start.ensures c.loop-spawner.invariant
