-- The passes of a new board.
use Rattle.std.specs.Prelude.{◌≡◌, ℕ, ◌+◌, List, slice_get, Some}
use Rattle.atomic_table.specs.Seated.{TableId}
use Rattle.native_board.specs.declared.passes.WorkerPass.{WorkerPass}
use Rattle.native_board.specs.Boards.{worker_board, worker_view, new_worker}

-- the pass of the worker of cell i, at its start
pub record IsFresh (z : TableId) (p : WorkerPass) (i : ℕ) : Type 0 where
  pub board : worker_board p ≡ z
  pub view : worker_view p ≡ new_worker i

-- these are the passes from cell b on
abbrev pub AreFresh : TableId → List WorkerPass → ℕ → Type 0
AreFresh z ps b = (k : ℕ) (p : WorkerPass) → slice_get ps k ≡ Some p → IsFresh z p (b + k)
