-- What the clauses of this crate and of others name.
use Rattle.std.specs.Prelude.{ℕ}
use Rattle.atomic_table.specs.Seated.{TableId}
use Rattle.gv_values.specs.declared.job.Job.{Job}
use Rattle.native_board.specs.declared.board.Board.{Board}
use Rattle.native_board.specs.declared.passes.HubPass.{HubPass}
use Rattle.native_board.specs.declared.passes.WorkerPass.{WorkerPass}
use Rattle.native_board.specs.declared.views.CellState.TheVariants.{Free}
use Rattle.native_board.specs.declared.views.HubCell.TheVariants.{Sent}
use Rattle.native_board.specs.declared.views.HubView.{HubView}
use Rattle.native_board.specs.declared.views.WorkerStage.TheVariants.{Idle}
use Rattle.native_board.specs.declared.views.WorkerView.{WorkerView}
use Rattle.native_board.specs.Plays.{marked, counted}
use Rattle.native_board.specs.Passes.{hub_of, worker_of}

-- which board it is
abbrev pub board_id : Board → TableId
board_id b = b.table.shared.table_id

-- the board that the hub's pass was made with
abbrev pub hub_board : HubPass → TableId
hub_board p = p.seat.table_id

-- the board that a worker's pass was made with
abbrev pub worker_board : WorkerPass → TableId
worker_board p = p.seat.table_id

-- what the hub's pass knows
abbrev pub hub_view : HubPass → HubView
hub_view p = hub_of p.seat

-- what a worker's pass knows
abbrev pub worker_view : WorkerPass → WorkerView
worker_view p = worker_of p.seat

-- the hub's view, once a job was posted to cell i
abbrev pub after_post : HubView → ℕ → ℕ → Job → HubView
after_post h i number job = counted (marked h i (Sent number job)) i

-- the view of the worker of cell i, at its start
abbrev pub new_worker : ℕ → WorkerView
new_worker i = record { cell = i; stage = Idle; looks = 0; takes = 0; last = Free }
