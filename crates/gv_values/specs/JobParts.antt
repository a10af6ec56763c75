-- A job as its kind and its integer.
use Rattle.std.specs.Prelude.{ℤ}
use Rattle.gv_values.specs.declared.job.Job.{Job}
use Rattle.gv_values.specs.declared.job.JobKind.{JobKind}

-- the kind of a job
abbrev pub kind_of : Job → JobKind
kind_of (Job.Sum z) = JobKind.Sum
kind_of (Job.Collatz z) = JobKind.Collatz
kind_of (Job.Fail z) = JobKind.Fail
kind_of (Job.Echo z) = JobKind.Echo

-- the integer of a job
abbrev pub argument_of : Job → ℤ
argument_of (Job.Sum z) = z
argument_of (Job.Collatz z) = z
argument_of (Job.Fail z) = z
argument_of (Job.Echo z) = z
