use Rattle.std.proofs.Common.{◌≡◌, ◌+◌, map}
use Rattle.std.specs.Prelude.{vec_len}
use Rattle.native_board.specs.Boards.{worker_view}
use Rattle.native_board.specs.Given.{passes_board, next_cell, passes_left}
use Rattle.native_pool.specs.Pools.{numbers_from}
use Rattle.native_pool.proofs.pool.tasks.Given as goal

abbrev pub invariant-loop-pass : goal.invariant-loop-pass
invariant-loop-pass g l = record {
  board : passes_board l.passes ≡ passes_board l.fn.passes;
  left : passes_left l.passes + next_cell l.passes ≡ passes_left l.fn.passes;
  cells : map (λ task. (worker_view task.pass).cell) l.tasks.items ≡ numbers_from 0 (next_cell l.passes);
  count : vec_len l.tasks ≡ next_cell l.passes;
}

abbrev pub decreases-loop-pass : goal.decreases-loop-pass
decreases-loop-pass g l = passes_left l.passes
