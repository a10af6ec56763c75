-- A job of its kind and its integer.
use Rattle.std.specs.Prelude.{ℤ}
use Rattle.gv_values.specs.declared.job.Job.{Job}
use Rattle.gv_values.specs.declared.job.JobKind.{JobKind}

-- the job of this kind and integer
abbrev pub job_of : JobKind → ℤ → Job
job_of JobKind.Sum z = Job.Sum z
job_of JobKind.Collatz z = Job.Collatz z
job_of JobKind.Fail z = Job.Fail z
job_of JobKind.Echo z = Job.Echo z
