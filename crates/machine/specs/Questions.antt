-- What the hub asks at the end of a turn, the block line before it, and the effect of an answer. This project's own.
use Rattle.std.specs.Prelude.{ℕ, ◌-◌, Bool, List, [], ◌∷◌, Option, Some, None, if◌then◌else◌, slice_set, min, is_some, is_none}
use Rattle.std.specs.List.{list_any}
use Rattle.machine.specs.declared.items.Delivery.{Delivery}
use Rattle.machine.specs.declared.items.Waiting.{Waiting}
use Rattle.trace_text.specs.declared.line.Line.{Line}
use Rattle.machine.specs.State.{State, say}
use Rattle.machine.specs.Settle.{settle}
use Rattle.machine.specs.Objects.{with_object, object_at, with_slot_freed}
use Rattle.gv_values.specs.declared.job.Answer.{Answer}
use Rattle.gv_values.specs.declared.job.JobOutcome.{JobOutcome}
use Rattle.world_rules.specs.declared.question.Question.{Question}
use Rattle.world_rules.specs.Legal.{moment_of}
use Rattle.world_rules.specs.declared.limits.TheConstants.{LAST_MOMENT}
use Rattle.trace_text.specs.declared.line.Blocked.{Blocked}
use Rattle.machine.specs.declared.items.Item.{Item}
use Rattle.machine.specs.declared.state.JobState.{JobState}
use Rattle.machine.specs.Holds.{job_at}

-- the moment at which the item holds, where it is one that waits for a moment
abbrev pub deadline_of : Delivery → Option ℕ
deadline_of (Delivery.Start g deadline) = deadline
deadline_of (Delivery.Wake g (Waiting.Sleep until)) = Some until
deadline_of (Delivery.Wake g w) = None
deadline_of (Delivery.Late g deadline n) = Some deadline
deadline_of (Delivery.Timeout g n deadline) = Some deadline
deadline_of (Delivery.Kill g f) = None
deadline_of (Delivery.Link k g kind f) = None

-- the lesser of two moments, of which each may be missing
abbrev pub lesser : Option ℕ → Option ℕ → Option ℕ
lesser None o = o
lesser (Some a) None = Some a
lesser (Some a) (Some b) = Some (min a b)

-- the least deadline of the items
abbrev pub least_deadline : List Item → Option ℕ
least_deadline [] = None
least_deadline (i ∷ items) = lesser (deadline_of i.delivery) (least_deadline items)

-- the item has a ready number
abbrev pub is_numbered : Item → Bool
is_numbered i = is_some i.ready

-- an item has a ready number
abbrev pub any_numbered : List Item → Bool
any_numbered items = list_any is_numbered items

-- the job has not arrived
abbrev pub is_outstanding : JobState → Bool
is_outstanding j = is_none j.outcome

-- a job has not arrived
abbrev pub any_outstanding : List JobState → Bool
any_outstanding js = list_any is_outstanding js

-- a wait until the least deadline, or for a job; none where nothing can come
abbrev pub asks_wait : State → Option ℕ → Option Question
asks_wait s (Some t) = Some (Question.Wait (Some (min t LAST_MOMENT)))
asks_wait s None = if any_outstanding s.jobs then Some (Question.Wait None) else None

-- Poll where an item has a number; else a wait until the least deadline, or for a job; none where nothing can come
abbrev pub question : State → Option Question
question s = if any_numbered s.items then Some Question.Poll else asks_wait s (least_deadline s.items)

-- before a wait, and before LoopExit, a block line
abbrev pub block_line : State → State
block_line s = if any_numbered s.items then s else say (Line.Block (blocked (least_deadline s.items))) s
  where
    blocked : Option ℕ → Blocked
    blocked (Some t) = Blocked.Until t
    blocked None = if any_outstanding s.jobs then Blocked.Jobs else Blocked.Nothing

-- the job, if there is one of this number, has come to this, and its slot is free
abbrev pub arrives : ℕ → JobOutcome → Option JobState → State → State
arrives j o None s = s
arrives j o (Some job) s =
    with_object job.pool (with_slot_freed (object_at job.pool s)) (record s { jobs = slice_set s.jobs (j - 1) (record job { outcome = Some o }) })

-- the job that an answer names has arrived
abbrev pub job_done : Answer → State → State
job_done (Answer.Done j o at) s = arrives j o (job_at j s.jobs) s
job_done answer s = s

-- an answer sets the moment, brings its job's outcome, and is written
unfoldable pub take_answer : Answer → State → State
take_answer answer s = settle (say (Line.Turn s.turns answer) (job_done answer (record s { moment = moment_of answer })))
