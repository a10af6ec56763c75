-- That no result is left behind a lowered signal.
use Rattle.std.specs.Prelude.{◌≡◌, ◌⊎◌, ℕ, ◌≤◌, length}
use mathlib.Core.Option.{some}
use lib.ListN.{get_elem?}
use Rattle.atomic_table.specs.Table.{State}
use Rattle.gv_values.specs.declared.job.Job.{Job}
use Rattle.native_board.specs.declared.views.Ended.{Ended}
use Rattle.native_board.specs.declared.views.Signal.TheVariants.{High}
use Rattle.native_board.specs.declared.views.CellState.TheVariants.{Done}
use Rattle.native_board.specs.declared.views.HubCell.TheVariants.{Sent}
use Rattle.native_board.specs.declared.views.HubView.{HubView}
use Rattle.native_board.specs.declared.views.WorkerStage.TheVariants.{Owes}
use Rattle.native_board.specs.declared.views.WorkerView.{WorkerView}
use Rattle.native_board.specs.declared.views.View.{View}
use Rattle.native_board.specs.declared.views.View.TheVariants.{Hub, Worker}
use Rattle.native_board.specs.Words.{cell_words, state_in, ended_of, signed_in, value_of}
use Rattle.native_board.specs.Rules.{hub_cell, signal_of}
use Rattle.world_rules.specs.Evaluate.{eval}

-- Where a worker's cell is done and the hub doesn't know it, the signal is raised, or the worker will raise it, or the
-- sweep has not reached the cell; and what the cell says is what the job comes to
abbrev pub NothingIsLost : State (Unit {0}) View → Type 0
NothingIsLost s =
    (a b : ℕ) (h : HubView) (w : WorkerView) → get_elem? s.views a ≡ some (Hub h) → get_elem? s.views b ≡ some (Worker w)
    → (k : ℕ) (j : Job) (e : Ended) → hub_cell h w.cell ≡ Sent k j → state_in (cell_words s.words w.cell).state ≡ Done e
    → ((signal_of s.words ≡ High) ⊎ ((w.stage ≡ Owes) ⊎ (length h.seen ≤ w.cell))) × (e ≡ ended_of (eval j)) × (signed_in (cell_words s.words w.cell).value ≡ value_of (eval j))
