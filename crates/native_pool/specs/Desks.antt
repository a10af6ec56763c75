-- What the hub of a pool keeps while the pool runs, and what each of its steps may do to that.
use Rattle.std.specs.Prelude.{◌≡◌, ◌⊎◌, ℕ, ◌+◌, ◌<◌, ◌≤◌, ◌==◌, Bool, true, false, if◌then◌else◌, List, [], ◌∷◌, ◌++◌, map, length, slice_index_or, All, Option, Some, None, option_map}
use Rattle.std.specs.List.{list_any, flat_map}
use Rattle.atomic_table.specs.Seated.{TableId}
use Rattle.gv_values.specs.declared.job.Job.{Job}
use Rattle.gv_values.specs.declared.job.Answer.{Answer}
use Rattle.world_rules.specs.declared.question.PostedJob.{PostedJob}
use Rattle.world_rules.specs.declared.question.Question.{Question}
use Rattle.world_rules.specs.Evaluate.{eval}
use Rattle.world_rules.specs.Legal.{posted, is_answered, Answers}
use Rattle.native_board.specs.declared.found.Finished.{Finished}
use Rattle.native_board.specs.declared.views.HubCell.{HubCell}
use Rattle.native_board.specs.declared.views.HubCell.TheVariants.{Sent}
use Rattle.native_board.specs.declared.views.HubView.{HubView}
use Rattle.native_board.specs.Passes.{KnowsFree, Sweeps, finished}

-- which board it is, and what the hub knows of it; whether each cell's worker was started; the jobs that no cell has taken yet, the
-- oldest first; and the results of the last sweep that were not handed on yet
pub record DeskView : Type 0 where
  pub board : TableId
  pub hub : HubView
  pub started : List Bool
  pub waiting : List PostedJob
  pub held : List Finished

-- the cell is known free, and its worker was started
abbrev pub CanTake : DeskView → ℕ → Type 0
CanTake d i = KnowsFree d.hub i × (slice_index_or d.started i false ≡ true)

-- a worker was started
abbrev pub has_workers : DeskView → Bool
has_workers d = list_any (λ (b : Bool). b) d.started

-- no result is held, and no job that could go on waits: none waits, or there are workers and none of their cells is
-- free
pub record IsQuiet (d : DeskView) : Type 0 where
  pub none_held : d.held ≡ []
  pub none_waits : (d.waiting ≡ []) ⊎ ((has_workers d ≡ true) × ((i : ℕ) → CanTake d i → ⊥))

-- 1 where it holds, else 0
abbrev pub one_if : Bool → ℕ
one_if b = if b then 1 else 0

-- how often a number stands in a list
abbrev pub occurs : ℕ → List ℕ → ℕ
occurs n [] = 0
occurs n (x ∷ xs) = one_if (x == n) + occurs n xs

-- the number of the job that lies in a cell
abbrev pub sent_number : HubCell → List ℕ
sent_number (Sent k j) = k ∷ []
sent_number _ = []

-- the number of the job that an answer names
abbrev pub done_number : Answer → List ℕ
done_number (Answer.Done k outcome at) = k ∷ []
done_number _ = []

-- the job that was posted under a number
abbrev pub job_posted_as : ℕ → List PostedJob → Option Job
job_posted_as n [] = None
job_posted_as n (p ∷ ps) = if p.number == n then Some p.job else job_posted_as n ps

-- the job that lies in a cell was posted under its number
abbrev pub IsPostedCell : List PostedJob → HubCell → Type 0
IsPostedCell posts (Sent k j) = job_posted_as k posts ≡ Some j
IsPostedCell posts _ = Unit {0}

-- the result is the outcome of the job that was posted under its number
abbrev pub IsResult : List PostedJob → Finished → Type 0
IsResult posts f = option_map eval (job_posted_as f.number posts) ≡ Some f.outcome

-- Each posted job waits, or lies in a cell, or its result is held, or it was answered: one of these, and once
pub record KeepsJobs (waiting : List PostedJob) (cells : List HubCell) (held : List Finished) (posts : List PostedJob) (answers : List Answer) : Type 0 where
  pub once : (n : ℕ) → occurs n (map (λ (p : PostedJob). p.number) posts) ≤ 1
  pub each : (n : ℕ) → occurs n (map (λ (p : PostedJob). p.number) waiting) + (occurs n (flat_map sent_number cells) + (occurs n (map (λ (f : Finished). f.number) held) + occurs n (flat_map done_number answers)))
      ≡ occurs n (map (λ (p : PostedJob). p.number) posts)
  pub waiting_posted : All (λ (p : PostedJob). job_posted_as p.number posts ≡ Some p.job) waiting
  pub cells_posted : All (IsPostedCell posts) cells
  pub held_posted : All (IsResult posts) held

-- the same of a desk
abbrev pub Balances : DeskView → List PostedJob → List Answer → Type 0
Balances d posts answers = KeepsJobs d.waiting d.hub.cells d.held posts answers

-- the cells and their workers are the same
pub record SameCells (d e : DeskView) : Type 0 where
  pub started : e.started ≡ d.started
  pub made : e.hub.made ≡ d.hub.made
  pub cells : length e.hub.cells ≡ length d.hub.cells

-- jobs that waited went on, the oldest first
pub record IsLater (old new : List PostedJob) : Type 0 where
  pub gone : List PostedJob
  pub is : old ≡ gone ++ new

-- nothing was handed on
pub record Rests (d e : DeskView) : Type 0 where
  pub same : SameCells d e
  pub sweeps : d.hub.sweeps ≤ e.hub.sweeps
  pub held : e.held ≡ d.held
  pub idle : has_workers d ≡ false → e.waiting ≡ d.waiting
  pub order : IsLater d.waiting e.waiting
  pub jobs : (posts : List PostedJob) (answers : List Answer) → Balances d posts answers → Balances e posts answers

-- jobs that waited were posted to free cells of started workers
pub record Fills (d e : DeskView) : Type 0 where
  pub rests : Rests d e
  pub seen : e.hub.seen ≡ d.hub.seen
  pub sweeps : e.hub.sweeps ≡ d.hub.sweeps
  pub empty : d.waiting ≡ [] → e.waiting ≡ []
  pub takes : (i : ℕ) → CanTake e i → CanTake d i

-- the board was swept, the results are held, and no job that could go on waits
pub record Refills (d e : DeskView) : Type 0 where
  pub same : SameCells d e
  pub after : HubView
  pub swept : Sweeps d.hub after
  pub seen : e.hub.seen ≡ after.seen
  pub sweeps : e.hub.sweeps ≡ after.sweeps
  pub held : e.held ≡ finished d.hub.cells after.seen
  pub idle : has_workers d ≡ false → e.waiting ≡ d.waiting
  pub order : IsLater d.waiting e.waiting
  pub full : (i : ℕ) → CanTake e i → e.waiting ≡ []
  pub jobs : (posts : List PostedJob) (answers : List Answer) → Balances d posts answers → Balances e posts answers

-- a sweep was made that found nothing, and no job that could go on waits
pub record Settles (d e : DeskView) : Type 0 where
  pub rests : Rests d e
  pub swept : d.hub.sweeps < e.hub.sweeps
  pub quiet : IsQuiet e

-- a job more waits behind the others, and those that could go on did, the oldest first
abbrev pub WaitsBehind : ℕ → Job → DeskView → DeskView → Type 0
WaitsBehind number job d e = IsLater (d.waiting ++ posted number job ∷ []) e.waiting

-- no sweep was made, and the results that were held are held in their order
pub record KeepsResults (d e : DeskView) : Type 0 where
  pub held : e.held ≡ d.held
  pub seen : e.hub.seen ≡ d.hub.seen
  pub sweeps : e.hub.sweeps ≡ d.hub.sweeps

-- the result was held, and was the first of those
abbrev pub HandsHeld : DeskView → DeskView → Finished → Type 0
HandsHeld d e f = (f ∷ e.held ≡ d.held) × IsLater d.waiting e.waiting

-- none was held, and the board was swept: the result is the first of those that the sweep found, and the others are held
pub record HandsSwept (d e : DeskView) (f : Finished) : Type 0 where
  pub none_held : d.held ≡ []
  -- the desk at the sweep, on which nothing was handed on before, and the board as it was known after it
  pub at : DeskView
  pub rests : Rests d at
  pub after : HubView
  pub swept : Sweeps at.hub after
  -- the sweep was the last
  pub seen : e.hub.seen ≡ after.seen
  pub sweeps : e.hub.sweeps ≡ after.sweeps
  -- in the order of the cells
  pub found : f ∷ e.held ≡ finished at.hub.cells after.seen
  pub order : IsLater d.waiting e.waiting

-- no worker was started, and the hub evaluated the oldest job
abbrev pub EvaluatesHere : DeskView → DeskView → Finished → Type 0
EvaluatesHere d e f =
    (has_workers d ≡ false) × (e.held ≡ []) × (job : Job) × (d.waiting ≡ posted f.number job ∷ e.waiting) × (f.outcome ≡ eval job)

-- a result was handed on
abbrev pub Hands : DeskView → DeskView → Finished → Type 0
Hands d e f = HandsHeld d e f ⊎ (HandsSwept d e f ⊎ EvaluatesHere d e f)

-- what was handed on is the result of a posted job that was not answered before
abbrev pub HandsDue : DeskView → DeskView → Finished → Type 0
HandsDue d e f =
    (posts : List PostedJob) (answers : List Answer) → Balances d posts answers
    → IsResult posts f × (is_answered f.number answers ≡ false) × ((at : ℕ) → Balances e posts (answers ++ Answer.Done f.number f.outcome at ∷ []))

-- an answer was given: Done hands a result on, and Elapsed and Nothing come after a sweep that found nothing
abbrev pub Gives : DeskView → DeskView → Answer → Type 0
Gives d e (Answer.Done number outcome at) = Hands d e (record { number = number; outcome = outcome })
Gives d e _ = Settles d e

-- an answer to the question that is due: it fits, and the jobs are kept once it was given
abbrev pub IsDue : DeskView → DeskView → Question → Answer → Type 0
IsDue d e question answer =
    (posts : List PostedJob) (answers : List Answer) → Balances d posts answers → Answers posts answers question answer × Balances e posts (answers ++ answer ∷ [])
