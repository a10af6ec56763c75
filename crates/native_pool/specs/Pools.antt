-- What a world of native threads means to those that use it, beside what every world means.
use Rattle.std.specs.Prelude.{◌≡◌, ℕ, zero, suc, ◌-◌, ◌<◌, ◌≤◌, true, List, [], ◌∷◌, map, min, length, slice_get, All, Option, Some, Result, Ok, Err, is_some, is_ok, IfErr}
use Rattle.atomic_table.specs.Seated.{TableId}
use Rattle.gv_values.specs.declared.job.Answer.{Answer}
use Rattle.world_rules.specs.declared.question.PostedJob.{PostedJob}
use Rattle.world_rules.specs.declared.question.Question.{Question}
use Rattle.world_rules.specs.declared.question.LogEntry.{LogEntry}
use Rattle.world_rules.specs.Legal.{posts_of, answers_of}
use Rattle.world_rules.specs.declared.limits.TheConstants.{LAST_MOMENT}
use Rattle.native_board.specs.declared.views.HubCell.TheVariants.{Stopped}
use Rattle.native_board.specs.declared.views.HubView.{HubView}
use Rattle.native_board.specs.Rules.{hub_cell}
use Rattle.native_board.specs.Passes.{is_sent}
use Rattle.world.specs.Outside.{WorldMeaning}
use Rattle.gv_values.specs.Counts.{HasRisen}
use Rattle.gv_values.specs.OneMore.{one_more}
use Rattle.native_pool.specs.Desks.{DeskView, Balances}

-- a board, and what its hub knew of it
pub record BoardView : Type 0 where
  pub board : TableId
  pub hub : HubView

-- posts, answers, moment and number of workers; the clock's last reading, and that at which it began; how often its
-- spawner refused and how often it joined; what each start answered, the cell of the worker that runs or of the task
-- that was given up; while it runs, what its hub keeps; and the board of the hub, and what that knew of it, when it last ended
pub record Pool : Type 0 where
  pub posts : List PostedJob
  pub answers : List Answer
  pub moment : ℕ
  pub workers : ℕ
  pub reading : ℕ
  pub began : ℕ
  pub refusals : ℕ
  pub joins : ℕ
  pub starts : List (Result ℕ ℕ)
  pub desk : Option DeskView
  pub ended : Option BoardView

-- what it means as a world: its rule rests on nothing
abbrev pub pool_meaning : Pool → WorldMeaning
pool_meaning p =
    record { posts = p.posts; answers = p.answers; moment = p.moment; workers = p.workers; tick = 0; listed = []; runs = is_some p.desk; reference = 0 }

-- the logs for which it stands: those with its posts and answers
abbrev pub pool_log : Pool → List LogEntry → Type 0
pool_log p log = (posts_of log ≡ p.posts) × (answers_of log ≡ p.answers)

-- the milliseconds since it began, by the clock's last reading
abbrev pub passed : Pool → ℕ
passed p = p.reading - p.began

-- its moment is what the clock says
abbrev pub IsTimely : Pool → Type 0
IsTimely p = p.moment ≡ min (passed p) LAST_MOMENT

-- an Elapsed comes only where the moment asked for has come by the clock
abbrev pub HasCome : Pool → Question → Answer → Type 0
HasCome p (Question.Wait (Some until)) (Answer.Elapsed at) = until ≤ passed p
HasCome p question answer = Unit {0}

-- the cell of which a start told
abbrev pub told_cell : Result ℕ ℕ → ℕ
told_cell (Ok cell) = cell
told_cell (Err cell) = cell

-- the n numbers from b on
abbrev pub numbers_from : ℕ → ℕ → List ℕ
numbers_from b zero = []
numbers_from b (suc n) = b ∷ numbers_from (suc b) n

-- one answer of `start` is kept for each worker, by cell, and a job was posted only to a cell whose answer is a worker
-- that runs
pub record KeepsStarts (p : Pool) (d : DeskView) : Type 0 where
  pub one_each : map told_cell p.starts ≡ numbers_from 0 p.workers
  pub running : (i : ℕ) → is_sent (hub_cell d.hub i) ≡ true → slice_get p.starts i ≡ Some (Ok i)

-- while it runs
abbrev pub WhileRunning : (Pool → DeskView → Type 0) → Pool → Type 0
WhileRunning P p = (d : DeskView) → p.desk ≡ Some d → P p d

-- between two moments at which it runs
abbrev pub Between : (DeskView → DeskView → Type 0) → Option DeskView → Option DeskView → Type 0
Between R (Some d) (Some e) = R d e
Between R _ _ = ⊥

-- a start is refused only where the spawner's count rose
abbrev pub RefusedWhereRisen : ℕ → ℕ → List (Result ℕ ℕ) → Type 0
RefusedWhereRisen old new starts = All (λ (start : Result ℕ ℕ). IfErr start (λ cell. HasRisen old new)) starts

-- the count of joins, once each worker that runs was joined
abbrev pub joined_each : List (Result ℕ ℕ) → ℕ → ℕ
joined_each [] joins = joins
joined_each (Ok cell ∷ starts) joins = joined_each starts (one_more joins)
joined_each (Err cell ∷ starts) joins = joined_each starts joins

-- Since then its own board was swept, no job was posted to it, and each worker that runs was told to end
pub record HasStopped (p : Pool) (ended : Option BoardView) (d : DeskView) : Type 0 where
  pub hub : HubView
  pub is : ended ≡ Some (record { board = d.board; hub = hub })
  pub posts : hub.posts ≡ d.hub.posts
  pub swept : d.hub.sweeps < hub.sweeps
  pub stopped : (i : ℕ) → slice_get p.starts i ≡ Some (Ok i) → hub_cell hub i ≡ Stopped

-- what holds of the hub of a pool that runs
pub record IsSoundDesk (p : Pool) (d : DeskView) : Type 0 where
  pub jobs : Balances d p.posts p.answers
  pub cells : d.hub.made ≡ length d.hub.cells
  pub one_each : map told_cell p.starts ≡ numbers_from 0 p.workers
  pub started : d.started ≡ map (λ (start : Result ℕ ℕ). is_ok start) p.starts

-- what holds of a pool
pub record IsSound (p : Pool) : Type 0 where
  pub timely : p.moment ≤ passed p
  pub running : WhileRunning IsSoundDesk p
