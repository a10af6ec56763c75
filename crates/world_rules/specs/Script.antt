-- The rule of a script: what it answers, as a function of the outstanding jobs, the moment and the question.
use Rattle.std.specs.Prelude.{ℕ, ◌+◌, ◌==◌, Bool, not, ◌&&◌, ◌||◌, List, [], ◌∷◌, filter, Option, Some, None, if◌then◌else◌, nat_lt, nat_le, min, max}
use Rattle.gv_values.specs.declared.job.Job.{Job}
use Rattle.gv_values.specs.declared.job.Answer.{Answer}
use Rattle.world_rules.specs.declared.limits.TheConstants.{LAST_MOMENT}
use Rattle.world_rules.specs.declared.question.Question.{Question}
use Rattle.world_rules.specs.declared.question.DueJob.{DueJob}
use Rattle.world_rules.specs.Evaluate.{eval}
use Rattle.world_rules.specs.Legal.{is_done_of}

-- the moment at which a job is done that is posted at a moment and takes so long
abbrev pub due_at : ℕ → ℕ → ℕ
due_at moment takes = min (moment + takes) LAST_MOMENT

-- a job that is done at a moment
abbrev pub due_job : ℕ → Job → ℕ → DueJob
due_job number job due = record { number = number; job = job; due = due }

-- a comes before b: it is due sooner, or at the same moment with the lower number
abbrev pub comes_before : DueJob → DueJob → Bool
comes_before a b = nat_lt a.due b.due || ((a.due == b.due) && nat_le a.number b.number)

-- of the job and another, if there is one, the one that comes first
abbrev pub sooner : DueJob → Option DueJob → DueJob
sooner job None = job
sooner job (Some other) = if comes_before job other then job else other

-- the job that comes first
abbrev pub first_due : List DueJob → Option DueJob
first_due [] = None
first_due (job ∷ jobs) = Some (sooner job (first_due jobs))

-- the job is done where it is due by the limit, at its due moment or later at this one; else the other answer is given
abbrev pub done_by : ℕ → ℕ → Option DueJob → Answer → Answer
done_by limit moment None otherwise = otherwise
done_by limit moment (Some job) otherwise =
    if nat_le job.due limit then Answer.Done job.number (eval job.job) (max job.due moment) else otherwise

-- the answer of a script whose moment grows by the tick at each Poll
abbrev pub scripted : ℕ → List DueJob → ℕ → Question → Answer
scripted tick jobs moment Question.Poll =
    let now = min (moment + tick) LAST_MOMENT in done_by now now (first_due jobs) (Answer.Nothing now)
scripted tick jobs moment (Question.Wait None) = done_by LAST_MOMENT moment (first_due jobs) (Answer.Elapsed moment)
scripted tick jobs moment (Question.Wait (Some until)) = done_by until moment (first_due jobs) (Answer.Elapsed (max until moment))

-- the jobs that an answer doesn't name
abbrev pub without_done : Answer → List DueJob → List DueJob
without_done answer jobs = filter (λ job. not (is_done_of job.number answer)) jobs
