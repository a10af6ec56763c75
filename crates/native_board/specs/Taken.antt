-- How often the jobs that are posted to a cell are taken.
use Rattle.std.specs.Prelude.{◌≡◌, ℕ, ◌+◌, ◌≤◌}
use mathlib.Core.Option.{some}
use lib.ListN.{get_elem?}
use Rattle.atomic_table.specs.Table.{State}
use Rattle.native_board.specs.declared.views.HubView.{HubView}
use Rattle.native_board.specs.declared.views.WorkerView.{WorkerView}
use Rattle.native_board.specs.declared.views.View.{View}
use Rattle.native_board.specs.declared.views.View.TheVariants.{Hub, Worker}
use Rattle.native_board.specs.Rules.{posts_at}

-- each worker has begun with every job that was posted to its cell once, but perhaps for the last
abbrev pub TakenOnce : State (Unit {0}) View → Type 0
TakenOnce s =
    (a b : ℕ) (h : HubView) (w : WorkerView) → get_elem? s.views a ≡ some (Hub h) → get_elem? s.views b ≡ some (Worker w)
    → (w.takes ≤ posts_at h w.cell) × (posts_at h w.cell ≤ w.takes + 1)
