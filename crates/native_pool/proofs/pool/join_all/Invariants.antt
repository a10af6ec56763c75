use Rattle.std.proofs.Common.{◌≡◌, map}
use Rattle.std.specs.Prelude.{vec_len}
use Rattle.native_pool.specs.Pools.{joined_each}
use Rattle.native_pool.specs.Views.{start_cell}
use Rattle.native_pool.proofs.pool.join_all.Given as goal

abbrev pub invariant-loop-spawner : goal.invariant-loop-spawner
invariant-loop-spawner g l =
    let sees = map (start_cell g.S.Spawner.running_cell g.S.Spawner.refused_cell) in
    joined_each (sees l.starts.items) (g.S.Spawner.joins l.spawner) ≡ joined_each (sees l.fn.starts.items) (g.S.Spawner.joins l.fn.spawner)

abbrev pub decreases-loop-spawner : goal.decreases-loop-spawner
decreases-loop-spawner g l = vec_len l.starts
