-- A job that arrives.
use Rattle.std.specs.Prelude.{◌≡◌, ◌-◌, ℕ, List, Option, Some, None, slice_set}
use Rattle.gv_values.specs.declared.job.JobOutcome.{JobOutcome}
use Rattle.machine.specs.declared.state.JobState.{JobState}
use Rattle.machine.specs.Holds.{job_at}

-- where there is such a job, it has come to this and its pool is answered; else all is as it was
abbrev pub came_by : Option JobState → ℕ → JobOutcome → List JobState → Option ℕ → List JobState → Type 0
came_by None j o old pool new = (pool ≡ None) × (new ≡ old)
came_by (Some job) j o old pool new = (pool ≡ Some job.pool) × (new ≡ slice_set old (j - 1) (record job { outcome = Some o }))

-- so it is of the job of this number
abbrev pub job_came : ℕ → JobOutcome → List JobState → Option ℕ → List JobState → Type 0
job_came j o old pool new = came_by (job_at j old) j o old pool new
