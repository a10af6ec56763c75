-- What each step makes of the view of its seat. The word that a step reads or writes is of cell i.
use Rattle.std.specs.Prelude.{◌≡◌, ℕ, ◌+◌, ◌*◌, [], ◌∷◌, ◌++◌, length, slice_set}
use Rattle.atomic_table.specs.Table.{Me, Step}
use Rattle.gv_values.specs.declared.job.Job.{Job}
use Rattle.native_board.specs.declared.views.Ended.{Ended}
use Rattle.native_board.specs.declared.views.CellState.{CellState}
use Rattle.native_board.specs.declared.views.CellState.TheVariants.{Free, Posted, Stop, Done}
use Rattle.native_board.specs.declared.views.HubCell.{HubCell}
use Rattle.native_board.specs.declared.views.HubCell.TheVariants.{Vacant, Ordered, Filled, Sent, Taking, Stopped}
use Rattle.native_board.specs.declared.views.HubView.{HubView}
use Rattle.native_board.specs.declared.views.WorkerStage.{WorkerStage}
use Rattle.native_board.specs.declared.views.WorkerStage.TheVariants.{Idle, Asked, Numbered, Holds, Valued, Owes, Over}
use Rattle.native_board.specs.declared.views.View.{View}
use Rattle.native_board.specs.declared.views.View.TheVariants.{Hub, Worker}
use Rattle.native_board.specs.Words.{state_in, number_in, kind_in, signed_in, ended_of, value_of}
use Rattle.gv_values.specs.Job.{job_of}
use Rattle.world_rules.specs.Evaluate.{eval}
use Rattle.native_board.specs.Rules.{hub_cell, posts_at}

-- the hub's view of cell i becomes x
abbrev pub marked : HubView → ℕ → HubCell → HubView
marked h i x = record h { cells = slice_set h.cells i x }

-- what the hub knows of cell i changes
abbrev pub on_cell : (HubCell → HubCell) → ℕ → View → View
on_cell f i (Hub h) = Hub (marked h i (f (hub_cell h i)))
on_cell f i v = v

-- a job whose order and argument are stored is posted
abbrev pub sent : HubCell → HubCell
sent (Filled k j) = Sent k j
sent cell = cell

-- a job more was posted to cell i
abbrev pub counted : HubView → ℕ → HubView
counted h i = record h { posts = slice_set h.posts i (posts_at h i + 1) }

-- the hub posts what is stored in cell i
abbrev pub on_post : ℕ → View → View
on_post i (Hub h) = Hub (counted (marked h i (sent (hub_cell h i))) i)
on_post i v = v

-- how far a worker is changes
abbrev pub on_stage : (WorkerStage → WorkerStage) → View → View
on_stage f (Worker w) = Worker (record w { stage = f w.stage })
on_stage f v = v

-- the hub, once it has one worker more, and that worker
abbrev pub with_worker : View → View
with_worker (Hub h) = Hub (record h { made = h.made + 1 })
with_worker v = v

-- that worker, who has no job
abbrev pub new_worker : View → View
new_worker (Hub h) = Worker (record { cell = h.made; stage = Idle; looks = 0; takes = 0; last = Free })
new_worker v = v

-- the order x is stored in a cell where nothing lies
abbrev pub ordered : ℕ → HubCell → HubCell
ordered x Vacant = Ordered (number_in x) (kind_in x)
ordered x cell = cell

-- the argument x is stored behind the order
abbrev pub filled : ℕ → HubCell → HubCell
filled x (Ordered k kind) = Filled k (job_of kind (signed_in x))
filled x cell = cell

-- a cell where nothing lies is told to stop
abbrev pub stopped : HubCell → HubCell
stopped Vacant = Stopped
stopped cell = cell

-- a worker without a job reads the state of its cell
abbrev pub asked : CellState → WorkerStage → WorkerStage
asked Posted Idle = Asked
asked Stop Idle = Over
asked _ w = w

-- how many jobs a worker begins with that reads this state
abbrev pub begun_with : CellState → WorkerStage → ℕ
begun_with Posted Idle = 1
begun_with st w = 0

-- a worker reads the state of its cell
abbrev pub looked : CellState → View → View
looked st (Worker w) = Worker (record w { stage = asked st w.stage; looks = w.looks + 1; takes = w.takes + begun_with st w.stage; last = st })
looked st v = v

-- a worker reads the order x
abbrev pub numbered : ℕ → WorkerStage → WorkerStage
numbered x Asked = Numbered (number_in x) (kind_in x)
numbered x w = w

-- a worker reads the argument x, and holds the job
abbrev pub holds : ℕ → WorkerStage → WorkerStage
holds x (Numbered k kind) = Holds k (job_of kind (signed_in x))
holds x w = w

-- a worker stores the value of its job
abbrev pub valued : WorkerStage → WorkerStage
valued (Holds k j) = Valued k j
valued w = w

-- a worker stores that its job is done
abbrev pub owing : WorkerStage → WorkerStage
owing (Valued k j) = Owes
owing w = w

-- a worker raises the signal
abbrev pub rested : WorkerStage → WorkerStage
rested Owes = Idle
rested w = w

-- a cell whose result was taken is free
abbrev pub freed : HubCell → HubCell
freed (Taking k j) = Vacant
freed cell = cell

-- the hub reads that the job in a cell is done
abbrev pub taken : CellState → HubCell → HubCell
taken (Done e) (Sent k j) = Taking k j
taken st cell = cell

-- a sweep begins
abbrev pub lowered : View → View
lowered (Hub h) = Hub (record h { sweeps = h.sweeps + 1; seen = [] })
lowered v = v

-- the next cell's state was seen
abbrev pub saw : HubView → CellState → HubView
saw h st = record h { cells = slice_set h.cells (length h.seen) (taken st (hub_cell h (length h.seen))); seen = h.seen ++ st ∷ [] }

-- the hub reads the state of the next cell
abbrev pub swept : CellState → View → View
swept st (Hub h) = Hub (saw h st)
swept st v = v

-- what is known of a seat
abbrev Sat : Type 0
Sat = Me (Unit {0}) View

-- a step at a word
abbrev At : Type 0
At = Step (Unit {0})

-- a store of the hub in the word q of cell i
abbrev Marks : ℕ → (ℕ → HubCell → HubCell) → At → Sat → ℕ → Sat → Type 0
Marks q f st m x m' = (i : ℕ) → st.word ≡ 4 * i + q → m' ≡ (on_cell (f x) i m.0, m.1)

-- the hub stores an order
abbrev pub StoresOrder : At → Sat → ℕ → Sat → Type 0
StoresOrder = Marks 2 ordered

-- the hub stores an argument
abbrev pub StoresArgument : At → Sat → ℕ → Sat → Type 0
StoresArgument = Marks 3 filled

-- the hub posts a job
abbrev pub StoresPosted : At → Sat → ℕ → Sat → Type 0
StoresPosted st m x m' = (i : ℕ) → st.word ≡ 4 * i + 1 → m' ≡ (on_post i m.0, m.1)

-- the hub tells a worker to end
abbrev pub StoresStop : At → Sat → ℕ → Sat → Type 0
StoresStop = Marks 1 (λ x. stopped)

-- a worker reads the state of its cell
abbrev pub LoadsState : At → Sat → ℕ → Sat → Type 0
LoadsState st m x m' = m' ≡ (looked (state_in x) m.0, m.1)

-- a worker reads the order
abbrev pub LoadsOrder : At → Sat → ℕ → Sat → Type 0
LoadsOrder st m x m' = m' ≡ (on_stage (numbered x) m.0, m.1)

-- a worker reads the argument
abbrev pub LoadsArgument : At → Sat → ℕ → Sat → Type 0
LoadsArgument st m x m' = m' ≡ (on_stage (holds x) m.0, m.1)

-- the hub frees a cell
abbrev pub StoresFree : At → Sat → ℕ → Sat → Type 0
StoresFree = Marks 1 (λ x. freed)

-- a worker stores the value of its job
abbrev pub StoresValue : At → Sat → ℕ → Sat → Type 0
StoresValue st m x m' = m' ≡ (on_stage valued m.0, m.1)

-- a worker stores that its job is done
abbrev pub StoresDone : At → Sat → ℕ → Sat → Type 0
StoresDone st m x m' = m' ≡ (on_stage owing m.0, m.1)

-- a worker raises the signal
abbrev pub SwapsHigh : At → Sat → ℕ → Sat → Type 0
SwapsHigh st m x m' = m' ≡ (on_stage rested m.0, m.1)

-- the hub lowers the signal
abbrev pub SwapsLow : At → Sat → ℕ → Sat → Type 0
SwapsLow st m x m' = m' ≡ (lowered m.0, m.1)

-- a job was posted to the cell, and its result was not taken
abbrev pub IsJob : HubCell → Type 0
IsJob (Sent k j) = Unit {0}
IsJob (Taking k j) = Unit {0}
IsJob _ = ⊥

-- where the hub finds a job done, it had sent one, and learns how it ended
abbrev pub LoadsNext : At → Sat → ℕ → Sat → Type 0
LoadsNext st m x m' = (m' ≡ (swept (state_in x) m.0, m.1))
    × ((h : HubView) (e : Ended) → m.0 ≡ Hub h → state_in x ≡ Done e → IsJob (hub_cell h (length h.seen)))
    × ((h : HubView) (k : ℕ) (j : Job) (e : Ended) → m.0 ≡ Hub h → hub_cell h (length h.seen) ≡ Sent k j → state_in x ≡ Done e → e ≡ ended_of (eval j))

-- the hub reads the value of a job that is done: that of its outcome
abbrev pub LoadsValue : At → Sat → ℕ → Sat → Type 0
LoadsValue st m x m' = (m' ≡ m) × ((h : HubView) (i k : ℕ) (j : Job) → m.0 ≡ Hub h → st.word ≡ 4 * i + 4 → hub_cell h i ≡ Taking k j → signed_in x ≡ value_of (eval j))
