-- What a desk and a pool are seen as.
use Rattle.std.specs.Prelude.{ℕ, List, Result, Ok, Err, Option, option_map}
use Rattle.native_board.specs.declared.passes.HubPass.{HubPass}
use Rattle.native_board.specs.Boards.{hub_board, hub_view}
use Rattle.native_pool.specs.declared.desk.Desk.{Desk}
use Rattle.native_pool.specs.declared.history.History.{History}
use Rattle.native_pool.specs.Desks.{DeskView}
use Rattle.native_pool.specs.Pools.{BoardView, Pool}

-- which board the hub's pass is of, and what it knows of that
abbrev pub board_view : HubPass → BoardView
board_view p = record { board = hub_board p; hub = hub_view p }

-- what contracts see of a desk
abbrev pub desk_view : Desk → DeskView
desk_view d = record { board = hub_board d.pass; hub = hub_view d.pass; started = d.started.items; waiting = d.waiting.items; held = d.held.items }

-- the cell of which a start told: Ok of a worker that runs, Err of a task that was given up
abbrev pub start_cell : {R F : Type 0} → (R → ℕ) → (F → ℕ) → Result R F → Result ℕ ℕ
start_cell running refused (Ok r) = Ok (running r)
start_cell running refused (Err f) = Err (refused f)

-- a pool, by what it keeps
abbrev pub pool_of : Option Desk → Option HubPass → History → ℕ → ℕ → ℕ → ℕ → List (Result ℕ ℕ) → Pool
pool_of desk ended history workers reading refusals joins starts = record {
  posts = history.posts.items;
  answers = history.answers.items;
  moment = history.moment;
  workers = workers;
  reading = reading;
  began = history.began;
  refusals = refusals;
  joins = joins;
  starts = starts;
  desk = option_map desk_view desk;
  ended = option_map board_view ended;
}
