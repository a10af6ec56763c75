use Rattle.std.proofs.Common.{◌≡◌, ◌+◌, ◌++◌, ◌≤◌, map}
use Rattle.std.specs.Prelude.{vec_len, vec_capacity, is_ok}
use Rattle.native_board.specs.Boards.{worker_view}
use Rattle.native_pool.specs.Pools.{told_cell, RefusedWhereRisen}
use Rattle.native_pool.specs.Views.{start_cell}
use Rattle.native_pool.proofs.pool.start_all.Given as goal

abbrev pub invariant-loop-spawner : goal.invariant-loop-spawner
invariant-loop-spawner g l = let seen = map (start_cell g.S.Spawner.running_cell g.S.Spawner.refused_cell) l.starts.items in record {
  starts : vec_len l.starts + vec_len l.tasks ≤ vec_capacity l.starts;
  counted : vec_len l.started + vec_len l.tasks ≡ vec_len l.fn.tasks;
  started_fits : vec_len l.started + vec_len l.tasks ≤ vec_capacity l.started;
  cells : map told_cell seen ++ map (λ task. (worker_view task.pass).cell) l.tasks.items ≡ map (λ task. (worker_view task.pass).cell) l.fn.tasks.items;
  started : l.started.items ≡ map (λ start. is_ok start) seen;
  risen : RefusedWhereRisen (g.S.Spawner.refusals l.fn.spawner) (g.S.Spawner.refusals l.spawner) seen;
  count : g.S.Spawner.refusals l.fn.spawner ≤ g.S.Spawner.refusals l.spawner;
}

abbrev pub decreases-loop-spawner : goal.decreases-loop-spawner
decreases-loop-spawner g l = vec_len l.tasks
