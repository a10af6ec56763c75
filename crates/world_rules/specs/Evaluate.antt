-- What a job comes to.
use Rattle.std.specs.Prelude.{ℕ, zero, suc, ◌+◌, ◌*◌, ◌/◌, ◌%◌, ◌^◌, ◌==◌, true, false, if◌then◌else◌, nat_lt, nat_le, ℤ, pos, negsuc}
use Rattle.gv_values.specs.declared.fault.FaultKind.{FaultKind}
use Rattle.gv_values.specs.declared.job.Job.{Job}
use Rattle.gv_values.specs.declared.job.JobOutcome.{JobOutcome}
use Rattle.world_rules.specs.declared.limits.TheConstants.{MOST_STEPS, MOST_SUMMED}

-- the number after m in a Collatz sequence
abbrev pub next_collatz : ℕ → ℕ
next_collatz m = if m % 2 == 0 then m / 2 else 3 * m + 1

-- The steps from m to 1, where `made` were made before and so many are left: ValueError where these are too few,
-- OverflowError where a number needs more than 64 bits signed, whichever comes first
unfoldable pub collatz : ℕ → ℕ → ℕ → JobOutcome
collatz zero made m = if m == 1 then JobOutcome.Int (pos made) else JobOutcome.Fault FaultKind.ValueError
collatz (suc left) made m =
    elim (m == 1) [
      | true ↦ JobOutcome.Int (pos made)
      | false ↦ elim (nat_lt (next_collatz m) (2 ^ 63)) [ true ↦ collatz left (made + 1) (next_collatz m) | false ↦ JobOutcome.Fault FaultKind.OverflowError ]
    ]

-- 1 + .. + n, where n is not too great
abbrev pub sum_to : ℤ → JobOutcome
sum_to (pos n) = if nat_le n MOST_SUMMED then JobOutcome.Int (pos (n * (n + 1) / 2)) else JobOutcome.Fault FaultKind.ValueError
sum_to (negsuc n) = JobOutcome.Fault FaultKind.ValueError

-- sum n is 1 + .. + n, collatz n the steps from n to 1, fail n the fault Error(n), and echo n is n
unfoldable pub eval : Job → JobOutcome
eval (Job.Sum z) = sum_to z
eval (Job.Collatz (pos (suc n))) = collatz MOST_STEPS 0 (suc n)
eval (Job.Collatz z) = JobOutcome.Fault FaultKind.ValueError
eval (Job.Fail z) = JobOutcome.Fault (FaultKind.Error z)
eval (Job.Echo z) = JobOutcome.Int z
