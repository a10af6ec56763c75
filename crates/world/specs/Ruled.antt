-- What the worlds by a rule keep.
use Rattle.std.specs.Prelude.{◌≡◌, ℕ, ◌≤◌, false, List, map, Some, All, Contains}
use Rattle.gv_values.specs.declared.job.Answer.{Answer}
use Rattle.gv_values.specs.declared.job.JobOutcome.{JobOutcome}
use Rattle.world_rules.specs.Evaluate.{eval}
use Rattle.world_rules.specs.declared.question.Question.{Question}
use Rattle.world_rules.specs.declared.question.PostedJob.{PostedJob}
use Rattle.world_rules.specs.declared.question.DueJob.{DueJob}
use Rattle.world_rules.specs.Legal.{posted, moment_of, last_answered_moment, is_posted, is_answered, outstanding}
use Rattle.world_rules.specs.declared.limits.TheConstants.{LAST_MOMENT}

-- the posted job of a job that is due
abbrev pub posted_of : DueJob → PostedJob
posted_of job = posted job.number job.job

-- the job has this number and comes to this outcome
abbrev pub EndsAs : ℕ → JobOutcome → DueJob → Type 0
EndsAs number outcome job = (job.number ≡ number) × (outcome ≡ eval job.job)

-- the outcome is that of one of the jobs, which has this number
abbrev pub IsEndOf : ℕ → JobOutcome → List DueJob → Type 0
IsEndOf number outcome jobs = (job : DueJob) × Contains jobs job × EndsAs number outcome job

-- an answer to the question where these jobs are outstanding
abbrev pub AnswersNow : List DueJob → Question → Answer → Type 0
AnswersNow jobs question (Answer.Done number outcome at) = IsEndOf number outcome jobs
AnswersNow jobs (Question.Wait (Some until)) (Answer.Elapsed at) = until ≤ at
AnswersNow jobs Question.Poll (Answer.Nothing at) = Unit {0}
AnswersNow jobs question answer = ⊥

-- a legal one: its moment is not before this one, nor after the last that there is
abbrev pub IsLegalNow : List DueJob → ℕ → Question → Answer → Type 0
IsLegalNow jobs moment question answer = AnswersNow jobs question answer × (moment ≤ moment_of answer) × (moment_of answer ≤ LAST_MOMENT)

-- the jobs are the outstanding ones, each due at a moment that fits; each answered job was posted; the moment is that
-- of the last answer
pub record IsSound (posts : List PostedJob) (answers : List Answer) (jobs : List DueJob) (moment : ℕ) : Type 0 where
  pub outstanding_are : map posted_of jobs ≡ outstanding posts answers
  pub due : All (λ (job : DueJob). job.due ≤ LAST_MOMENT) jobs
  pub answered : (number : ℕ) → is_posted number posts ≡ false → is_answered number answers ≡ false
  pub timely : last_answered_moment answers ≡ moment
  pub fits : moment ≤ LAST_MOMENT
