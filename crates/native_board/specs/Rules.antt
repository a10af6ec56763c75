-- The rule of the board: what the words say, by what the hub and each worker know.
use Rattle.std.specs.Prelude.{◌≡◌, ◌⊎◌, ℕ, ◌+◌, ◌*◌, ◌<◌, ◌≤◌, List, ◌∷◌, map, length, slice_index, slice_index_or, replicate}
use mathlib.Core.Option.{some}
use lib.ListN.{get_elem?}
use Rattle.atomic_table.specs.Table.{State}
use Rattle.gv_values.specs.declared.job.Job.{Job}
use Rattle.native_board.specs.declared.views.Signal.{Signal}
use Rattle.native_board.specs.declared.views.Signal.TheVariants.{High}
use Rattle.native_board.specs.declared.views.CellState.{CellState}
use Rattle.native_board.specs.declared.views.CellState.TheVariants.{Free, Posted, Stop, Done}
use Rattle.native_board.specs.declared.views.HubCell.{HubCell}
use Rattle.native_board.specs.declared.views.HubCell.TheVariants.{Vacant, Ordered, Filled, Sent, Taking, Stopped}
use Rattle.native_board.specs.declared.views.HubView.{HubView}
use Rattle.native_board.specs.declared.views.WorkerStage.{WorkerStage}
use Rattle.native_board.specs.declared.views.WorkerStage.TheVariants.{Idle, Asked, Numbered, Holds, Valued, Owes, Over}
use Rattle.native_board.specs.declared.views.WorkerView.{WorkerView}
use Rattle.native_board.specs.declared.views.View.{View}
use Rattle.native_board.specs.declared.views.View.TheVariants.{Hub, Worker}
use Rattle.native_board.specs.Words.{CellWords, cell_words, signal_in, state_in, number_in, kind_in, signed_in, ended_of, value_of}
use Rattle.gv_values.specs.JobParts.{kind_of, argument_of}
use Rattle.world_rules.specs.Evaluate.{eval}

-- the worker is between two jobs
abbrev pub Rests : WorkerStage → Type 0
Rests Idle = Unit {0}
Rests Owes = Unit {0}
Rests _ = ⊥

-- order and argument are those of this job
abbrev pub Carries : CellWords → ℕ → Job → Type 0
Carries c k j = (number_in c.order ≡ k) × (kind_in c.order ≡ kind_of j) × (signed_in c.argument ≡ argument_of j)

-- the value is that of the job's outcome
abbrev pub Shows : CellWords → Job → Type 0
Shows c j = signed_in c.value ≡ value_of (eval j)

-- how far the worker may be with the job that lies in its cell
abbrev pub Takes : CellWords → ℕ → Job → WorkerStage → Type 0
Takes c k j Idle = Unit {0}
Takes c k j Owes = Unit {0}
Takes c k j Asked = Unit {0}
Takes c k j (Numbered n kind) = (n ≡ k) × (kind ≡ kind_of j)
Takes c k j (Holds n b) = (n ≡ k) × (b ≡ j)
Takes c k j (Valued n b) = (n ≡ k) × (b ≡ j) × Shows c j
Takes c k j _ = ⊥

-- how far the worker may be that is told to end
abbrev pub Stops : WorkerStage → Type 0
Stops Idle = Unit {0}
Stops Owes = Unit {0}
Stops Over = Unit {0}
Stops _ = ⊥

-- the table of states: of a cell's words, its state, what the hub knows of it, and how far its worker is
abbrev pub CellRule : CellWords → CellState → HubCell → WorkerStage → Type 0
CellRule c Free Vacant w = Rests w
CellRule c Free (Ordered k kind) w = Rests w × (number_in c.order ≡ k) × (kind_in c.order ≡ kind)
CellRule c Free (Filled k j) w = Rests w × Carries c k j
CellRule c Posted (Sent k j) w = Carries c k j × Takes c k j w
CellRule c (Done e) (Sent k j) w = Rests w × (e ≡ ended_of (eval j)) × Shows c j
CellRule c (Done e) (Taking k j) w = Rests w × (e ≡ ended_of (eval j)) × Shows c j
CellRule c Stop Stopped w = Stops w
CellRule c _ _ w = ⊥

-- A result that the hub doesn't know of is behind a raised signal, or its worker will raise it, or the sweep has not
-- reached it
abbrev pub NoLost : Signal → ℕ → ℕ → CellState → HubCell → WorkerStage → Type 0
NoLost signal reached i (Done e) (Sent k j) w = (signal ≡ High) ⊎ ((w ≡ Owes) ⊎ (reached ≤ i))
NoLost signal reached i st x w = Unit {0}

-- how many of the jobs posted to a cell its worker has not begun with
abbrev pub untaken : CellState → WorkerStage → ℕ
untaken Posted Idle = 1
untaken Posted Owes = 1
untaken st w = 0

-- Cell i, where a sweep has seen the cells below `reached`. Its worker has begun with each job that was posted to it
-- once, but for the one that still lies there
abbrev pub Fits : Signal → ℕ → ℕ → CellWords → HubCell → ℕ → WorkerStage → ℕ → Type 0
Fits signal reached i c x posts w takes =
    let st : CellState = state_in c.state in CellRule c st x w × NoLost signal reached i st x w × (posts ≡ takes + untaken st w)

-- the signal of a board with these words
abbrev pub signal_of : List ℕ → Signal
signal_of ws = signal_in (slice_index ws 0)

-- what the hub knows of cell i
abbrev pub hub_cell : HubView → ℕ → HubCell
hub_cell h i = slice_index_or h.cells i Vacant

-- how often a job was posted to cell i
abbrev pub posts_at : HubView → ℕ → ℕ
posts_at h i = slice_index h.posts i

-- The rule. The first seat is the hub's, and the next ones are those of the workers, by cell; a cell without a worker
-- is free
pub record Kept (s : State (Unit {0}) View) : Type 0 where
  pub hub : HubView
  pub workers : List WorkerView
  pub views_are : s.views ≡ Hub hub ∷ map (λ w. Worker w) workers
  pub made_are : length workers ≡ hub.made
  pub made_fit : hub.made ≤ length hub.cells
  pub posts_fit : length hub.posts ≡ length hub.cells
  pub wide : length s.words ≡ 4 * length hub.cells + 1
  pub started : (i : ℕ) (w : WorkerView) → get_elem? workers i ≡ some w → (w.cell ≡ i) × Fits (signal_of s.words) (length hub.seen) i (cell_words s.words i) (hub_cell hub i) (posts_at hub i) w.stage w.takes
  pub unstarted : (i : ℕ) → hub.made ≤ i → i < length hub.cells → (state_in (cell_words s.words i).state ≡ Free) × (hub_cell hub i ≡ Vacant) × (posts_at hub i ≡ 0)

-- the hub's view of a board of n free cells, of which m workers were split off
abbrev pub begun : ℕ → ℕ → HubView
begun n m = record { cells = replicate n Vacant; posts = replicate n 0; made = m; sweeps = 0; seen = replicate n Free }

-- the view of the first seat
abbrev pub first : ℕ → View
first n = Hub (begun n 0)
