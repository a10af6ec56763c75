-- Which answers to a question are legal, given the jobs that were posted and the answers before.
use Rattle.std.specs.Prelude.{◌≡◌, ℕ, ◌<◌, ◌≤◌, ◌==◌, Bool, false, not, List, [], ◌∷◌, ◌++◌, length, filter, Some, None, Contains}
use Rattle.std.specs.List.{list_any}
use Rattle.gv_values.specs.declared.job.Job.{Job}
use Rattle.gv_values.specs.declared.job.JobOutcome.{JobOutcome}
use Rattle.gv_values.specs.declared.job.Answer.{Answer}
use Rattle.world_rules.specs.declared.question.Question.{Question}
use Rattle.world_rules.specs.declared.question.PostedJob.{PostedJob}
use Rattle.world_rules.specs.declared.question.LogEntry.{LogEntry}
use Rattle.world_rules.specs.Evaluate.{eval}
use Rattle.world_rules.specs.declared.limits.TheConstants.{LAST_MOMENT}

-- a job with its number
abbrev pub posted : ℕ → Job → PostedJob
posted number job = record { number = number; job = job }

-- the moment at which an answer was given
abbrev pub moment_of : Answer → ℕ
moment_of (Answer.Done number outcome at) = at
moment_of (Answer.Elapsed at) = at
moment_of (Answer.Nothing at) = at

-- the moment of the last of these answers, and 0 before the first
abbrev pub last_answered_moment : List Answer → ℕ
last_answered_moment [] = 0
last_answered_moment (answer ∷ []) = moment_of answer
last_answered_moment (answer ∷ answers) = last_answered_moment answers

-- the answer says that the job of this number is done
abbrev pub is_done_of : ℕ → Answer → Bool
is_done_of number (Answer.Done n outcome at) = n == number
is_done_of number answer = false

-- one of the answers says that the job of this number is done
abbrev pub is_answered : ℕ → List Answer → Bool
is_answered number answers = list_any (is_done_of number) answers

-- a job of this number was posted
abbrev pub is_posted : ℕ → List PostedJob → Bool
is_posted number posts = list_any (λ post. post.number == number) posts

-- the posted jobs that no answer names
abbrev pub outstanding : List PostedJob → List Answer → List PostedJob
outstanding posts answers = filter (λ post. not (is_answered post.number answers)) posts

-- the outcome is that of a posted job of this number
abbrev pub IsOutcomeOf : ℕ → JobOutcome → List PostedJob → Type 0
IsOutcomeOf number outcome posts = (job : Job) × Contains posts (posted number job) × (outcome ≡ eval job)

-- Done names a posted job that no earlier answer names, with its outcome; Elapsed answers only a wait until a moment,
-- which has come; Nothing answers only Poll
abbrev pub Answers : List PostedJob → List Answer → Question → Answer → Type 0
Answers posts before question (Answer.Done number outcome at) = IsOutcomeOf number outcome posts × (is_answered number before ≡ false)
Answers posts before (Question.Wait (Some until)) (Answer.Elapsed at) = until ≤ at
Answers posts before Question.Poll (Answer.Nothing at) = Unit {0}
Answers posts before question answer = ⊥

-- a legal answer after these posts and answers: its moment is not before that of the last answer, nor after `LAST_MOMENT`
abbrev pub IsLegal : List PostedJob → List Answer → Question → Answer → Type 0
IsLegal posts before question answer =
    Answers posts before question answer × (last_answered_moment before ≤ moment_of answer) × (moment_of answer ≤ LAST_MOMENT)

-- what may be asked: a wait without end where a job is outstanding, another until a moment not after `LAST_MOMENT`
abbrev pub MayAsk : List PostedJob → List Answer → Question → Type 0
MayAsk posts answers Question.Poll = Unit {0}
MayAsk posts answers (Question.Wait None) = 0 < length (outstanding posts answers)
MayAsk posts answers (Question.Wait (Some until)) = until ≤ LAST_MOMENT

-- the jobs that were posted in a log
abbrev pub posts_of : List LogEntry → List PostedJob
posts_of [] = []
posts_of (LogEntry.Post number job takes ∷ log) = posted number job ∷ posts_of log
posts_of (LogEntry.Asked question answer ∷ log) = posts_of log

-- the answers that were given in a log
abbrev pub answers_of : List LogEntry → List Answer
answers_of [] = []
answers_of (LogEntry.Post number job takes ∷ log) = answers_of log
answers_of (LogEntry.Asked question answer ∷ log) = answer ∷ answers_of log

-- after these posts and answers, each answer of the log is legal
abbrev pub AreLegal : List PostedJob → List Answer → List LogEntry → Type 0
AreLegal posts before [] = Unit {0}
AreLegal posts before (LogEntry.Post number job takes ∷ log) = AreLegal (posts ++ posted number job ∷ []) before log
AreLegal posts before (LogEntry.Asked question answer ∷ log) = IsLegal posts before question answer × AreLegal posts (before ++ answer ∷ []) log
