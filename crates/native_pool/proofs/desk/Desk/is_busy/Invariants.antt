use Rattle.std.proofs.Common.{ℕ, ◌<◌}
use Rattle.std.specs.Prelude.{vec_len}
use Rattle.native_board.specs.Boards.{hub_view}
use Rattle.native_board.specs.Passes.{KnowsFree}
use Rattle.native_pool.proofs.desk.Desk.is_busy.Given as goal

abbrev pub invariant-loop-cell : goal.invariant-loop-cell
invariant-loop-cell l = (i : ℕ) → i < l.cell → i < vec_len l.self.started → KnowsFree (hub_view l.self.pass) i
