-- A job comes to an integer or to one of three kinds of fault.
use Rattle.std.proofs.Common.{ℕ, zero, suc, ◌+◌, ◌^◌, ◌==◌, Bool, true, false, if◌then◌else◌, nat_lt, nat_le, pos, negsuc}
use Rattle.gv_values.specs.declared.fault.FaultKind.{FaultKind}
use Rattle.gv_values.specs.declared.job.Job.{Job}
use Rattle.gv_values.specs.declared.job.JobOutcome.{JobOutcome}
use Rattle.world_rules.specs.Evaluate.{next_collatz, collatz, eval}
use Rattle.world_rules.specs.declared.limits.TheConstants.{MOST_STEPS, MOST_SUMMED}

-- these are the outcomes of jobs
abbrev pub IsJobEnd : JobOutcome → Type 0
IsJobEnd (JobOutcome.Int x) = Unit {0}
IsJobEnd (JobOutcome.Fault FaultKind.ValueError) = Unit {0}
IsJobEnd (JobOutcome.Fault FaultKind.OverflowError) = Unit {0}
IsJobEnd (JobOutcome.Fault (FaultKind.Error x)) = Unit {0}
IsJobEnd outcome = ⊥

collatz_ends : (left made m : ℕ) → IsJobEnd (collatz left made m)
unfolding collatz
collatz_ends zero made m =
    elim (m == 1) as (λ (b : Bool). IsJobEnd (if b then JobOutcome.Int (pos made) else JobOutcome.Fault FaultKind.ValueError)) [ true ↦ tt | false ↦ tt ]
collatz_ends (suc left) made m =
    elim (m == 1)
    as (λ (b : Bool).
    IsJobEnd (elim b [
      | true ↦ JobOutcome.Int (pos made)
      | false ↦ elim (nat_lt (next_collatz m) (2 ^ 63)) [ true ↦ collatz left (made + 1) (next_collatz m) | false ↦ JobOutcome.Fault FaultKind.OverflowError ]
    ])) [
      | true ↦ tt
      | false ↦
          elim (nat_lt (next_collatz m) (2 ^ 63)) as (λ (b : Bool).
          IsJobEnd (elim b [ true ↦ collatz left (made + 1) (next_collatz m) | false ↦ JobOutcome.Fault FaultKind.OverflowError ])) [
            | true ↦ collatz_ends left (made + 1) (next_collatz m)
            | false ↦ tt
          ]
    ]

sum_ends : (b : Bool) (n : ℕ) → IsJobEnd (if b then JobOutcome.Int (pos n) else JobOutcome.Fault FaultKind.ValueError)
sum_ends true n = tt
sum_ends false n = tt

-- every job comes to an integer, ValueError, OverflowError or Error
pub eval_ends : (job : Job) → IsJobEnd (eval job)
unfolding eval
eval_ends (Job.Sum (pos n)) = sum_ends (nat_le n MOST_SUMMED) _
eval_ends (Job.Sum (negsuc n)) = tt
eval_ends (Job.Collatz (pos zero)) = tt
eval_ends (Job.Collatz (pos (suc n))) = collatz_ends MOST_STEPS 0 (suc n)
eval_ends (Job.Collatz (negsuc n)) = tt
eval_ends (Job.Fail z) = tt
eval_ends (Job.Echo z) = tt
