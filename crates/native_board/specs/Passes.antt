-- What a pass knows.
use Rattle.std.specs.Prelude.{◌≡◌, Bool, true, false, ℕ, ◌+◌, ◌*◌, ◌<◌, ◌≤◌, ◌++◌, ◌∷◌, List, [], length, slice_index_or, option_to_list, Option, Some, None, slice_set}
use Rattle.atomic_table.specs.declared.shared.Seat.{Seat}
use Rattle.native_board.specs.declared.views.Ended.{Ended}
use Rattle.native_board.specs.declared.views.CellState.{CellState}
use Rattle.native_board.specs.declared.views.CellState.TheVariants.{Free, Posted, Stop, Done}
use Rattle.gv_values.specs.declared.job.Job.{Job}
use Rattle.native_board.specs.declared.found.Finished.{Finished}
use Rattle.gv_values.specs.declared.job.JobOutcome.{JobOutcome}
use Rattle.world_rules.specs.Evaluate.{eval}
use Rattle.native_board.specs.declared.found.Looked.{Looked}
use Rattle.native_board.specs.declared.found.Looked.TheVariants as looked
use Rattle.native_board.specs.declared.views.HubCell.{HubCell}
use Rattle.native_board.specs.declared.views.HubCell.TheVariants.{Vacant, Sent, Stopped}
use Rattle.native_board.specs.declared.views.HubView.{HubView}
use Rattle.native_board.specs.declared.views.WorkerStage.{WorkerStage}
use Rattle.native_board.specs.declared.views.WorkerStage.TheVariants.{Idle, Holds, Valued, Over}
use Rattle.native_board.specs.Rules.{hub_cell}
use Rattle.native_board.specs.Plays.{marked, counted, asked, begun_with}
use Rattle.native_board.specs.declared.views.WorkerView.{WorkerView}
use Rattle.native_board.specs.declared.views.View.{View}
use Rattle.native_board.specs.declared.views.View.TheVariants.{Hub, Worker}
use Rattle.gv_values.specs.declared.limits.TheConstants.{MOST_WORKERS}

-- the hub's view, or an empty one of another seat
abbrev pub hub_in : View → HubView
hub_in (Hub h) = h
hub_in (Worker w) = record { cells = []; posts = []; made = 0; sweeps = 0; seen = [] }

-- the worker's view, or that of a worker that has ended
abbrev pub worker_in : View → WorkerView
worker_in (Hub h) = record { cell = 0; stage = Over; looks = 0; takes = 0; last = Free }
worker_in (Worker w) = w

-- what the token of the hub knows
abbrev pub hub_of : Seat (Unit {0}) View → HubView
hub_of s = hub_in s.me.0

-- what the token of a worker knows
abbrev pub worker_of : Seat (Unit {0}) View → WorkerView
worker_of s = worker_in s.me.0

-- the cell has a worker, and nothing lies in it
abbrev pub KnowsFree : HubView → ℕ → Type 0
KnowsFree h i = (i < h.made) × (hub_cell h i ≡ Vacant)

-- what a look answers, by the state that it read
abbrev pub Answers : CellState → Looked → WorkerStage → Type 0
Answers Posted r w = (k : ℕ) × (j : Job) × (r ≡ looked.Posted k j) × (w ≡ Holds k j)
Answers Stop r w = (r ≡ looked.Stop) × (w ≡ Over)
Answers _ r w = (r ≡ looked.NotYet) × (w ≡ Idle)

-- a look: it reads the state once, and answers by what it read; a job that it answers is one that the worker begins
-- with
pub record Looks (v w : WorkerView) (r : Looked) : Type 0 where
  pub cell : w.cell ≡ v.cell
  pub looks : w.looks ≡ v.looks + 1
  pub takes : w.takes ≡ v.takes + begun_with w.last Idle
  pub answer : Answers w.last r w.stage

-- a seat at a board
abbrev pub Place : Type 0
Place = Seat (Unit {0}) View

-- the seat is the hub's, and knows that cell i is x
abbrev pub IsHubAt : Place → ℕ → HubCell → Type 0
IsHubAt s i x = (s.me ≡ (Hub (hub_of s), [])) × (i < (hub_of s).made) × (hub_cell (hub_of s) i ≡ x) × (4 * i + 4 < s.table_id.words) × (i ≤ MOST_WORKERS)

-- the hub's seat after a step at cell i
pub record IsMarked (s t : Place) (i : ℕ) (x : HubCell) : Type 0 where
  pub table : t.table_id ≡ s.table_id
  pub seat : t.id ≡ s.id
  pub knows : t.me ≡ (Hub (marked (hub_of s) i x), [])

-- the hub's seat after a job was posted to cell i
pub record IsSent (s t : Place) (i k : ℕ) (j : Job) : Type 0 where
  pub table : t.table_id ≡ s.table_id
  pub seat : t.id ≡ s.id
  pub knows : t.me ≡ (Hub (counted (marked (hub_of s) i (Sent k j)) i), [])

-- the seat is that of the worker of cell i, which is so far
abbrev pub IsWorkerAt : Place → ℕ → WorkerStage → Type 0
IsWorkerAt s i w = (s.me ≡ (Worker (worker_of s), [])) × ((worker_of s).cell ≡ i) × ((worker_of s).stage ≡ w) × (4 * i + 4 < s.table_id.words) × (i ≤ MOST_WORKERS)

-- the worker's seat after a step
pub record IsStaged (s t : Place) (w : WorkerStage) : Type 0 where
  pub table : t.table_id ≡ s.table_id
  pub seat : t.id ≡ s.id
  pub knows : t.me ≡ (Worker (record (worker_of s) { stage = w }), [])

-- the worker's seat holds a job, of which this is the outcome
abbrev pub HoldsOf : Place → ℕ → JobOutcome → Type 0
HoldsOf s i o = (k : ℕ) × (j : Job) × IsWorkerAt s i (Holds k j) × (o ≡ eval j)

-- the worker's seat has stored the value of this outcome of its job
abbrev pub IsValuedOf : Place → ℕ → JobOutcome → Type 0
IsValuedOf s i o = (k : ℕ) × (j : Job) × IsWorkerAt s i (Valued k j) × (o ≡ eval j)

-- the worker's seat after the value of this outcome of its job was stored
abbrev pub ValuedOf : Place → Place → JobOutcome → Type 0
ValuedOf s t o = (k : ℕ) × (j : Job) × IsStaged s t (Valued k j) × (o ≡ eval j)

-- the hub's seat, with this view
pub record BecomesHub (s t : Place) (h : HubView) : Type 0 where
  pub table : t.table_id ≡ s.table_id
  pub seat : t.id ≡ s.id
  pub knows : t.me ≡ (Hub h, [])

-- a sweep begins
abbrev pub lowers : HubView → HubView
lowers h = record h { sweeps = h.sweeps + 1; seen = [] }

-- the worker's seat after a look at the state
pub record HasLooked (s t : Place) (st : CellState) : Type 0 where
  pub table : t.table_id ≡ s.table_id
  pub seat : t.id ≡ s.id
  pub knows : t.me ≡ (Worker (record (worker_of s) { stage = asked st Idle; looks = (worker_of s).looks + 1; takes = (worker_of s).takes + begun_with st Idle; last = st }), [])

-- what the hub may know of a cell between two calls
abbrev pub is_settled : HubCell → Bool
is_settled Vacant = true
is_settled (Sent k j) = true
is_settled Stopped = true
is_settled _ = false

-- the seat is the hub's, which has split off every worker, and these are its cells
pub record IsHub (s : Place) (cells : List HubCell) : Type 0 where
  pub knows : s.me ≡ (Hub (hub_of s), [])
  pub same_cells : (hub_of s).cells ≡ cells
  pub all_made : (hub_of s).made ≡ length cells
  pub table : s.table_id.words ≡ 4 * length cells + 1
  pub few : length cells ≤ MOST_WORKERS
  pub settled : (i : ℕ) → is_settled (slice_index_or cells i Vacant) ≡ true

-- the seat is that of the worker of this cell
pub record IsWorker (s : Place) (i : ℕ) : Type 0 where
  pub knows : s.me ≡ (Worker (worker_of s), [])
  pub own : (worker_of s).cell ≡ i
  pub table : 4 * i + 4 < s.table_id.words
  pub few : i ≤ MOST_WORKERS

-- a cell, once a sweep has read this state in it
abbrev pub swept_cell : CellState → HubCell → HubCell
swept_cell (Done e) (Sent k j) = Vacant
swept_cell st x = x

-- what a sweep hands out where it reads this state in a cell
abbrev pub finished_at : CellState → HubCell → Option Finished
finished_at (Done e) (Sent k j) = Some (record { number = k; outcome = eval j })
finished_at st x = None

-- the cells, once a sweep has read these states
abbrev pub after_sweep : List HubCell → List CellState → List HubCell
after_sweep xs [] = xs
after_sweep [] (st ∷ sts) = []
after_sweep (x ∷ xs) (st ∷ sts) = swept_cell st x ∷ after_sweep xs sts

-- what a sweep hands out where it reads these states
abbrev pub finished : List HubCell → List CellState → List Finished
finished xs [] = []
finished [] (st ∷ sts) = []
finished (x ∷ xs) (st ∷ sts) = option_to_list (finished_at st x) ++ finished xs sts

-- a job was posted, and its result was not taken yet
abbrev pub is_sent : HubCell → Bool
is_sent (Sent k j) = true
is_sent _ = false

-- the next cell was swept
pub record SweepsNext (h g : HubView) (r : Option Finished) : Type 0 where
  pub state : CellState
  pub hub : g ≡ record h { cells = slice_set h.cells (length h.seen) (swept_cell state (hub_cell h (length h.seen))); seen = h.seen ++ state ∷ [] }
  pub result : r ≡ finished_at state (hub_cell h (length h.seen))
  pub job : (e : Ended) → state ≡ Done e → is_sent (hub_cell h (length h.seen)) ≡ true

-- a whole sweep: each cell was seen once, and those that were done are free again; each of these had a job
pub record Sweeps (h g : HubView) : Type 0 where
  pub more : g.sweeps ≡ h.sweeps + 1
  pub full : length g.seen ≡ length h.cells
  pub cells : g.cells ≡ after_sweep h.cells g.seen
  pub made : g.made ≡ h.made
  pub posts : g.posts ≡ h.posts
  pub sent : (i : ℕ) (e : Ended) → slice_index_or g.seen i Free ≡ Done e → is_sent (hub_cell h i) ≡ true

-- a sweep that has come to cell i
pub record SweepsTo (h g : HubView) (i : ℕ) : Type 0 where
  pub more : g.sweeps ≡ h.sweeps + 1
  pub reached : length g.seen ≡ i
  pub cells : g.cells ≡ after_sweep h.cells g.seen
  pub made : g.made ≡ h.made
  pub posts : g.posts ≡ h.posts
  pub sent : (i : ℕ) (e : Ended) → slice_index_or g.seen i Free ≡ Done e → is_sent (hub_cell h i) ≡ true
