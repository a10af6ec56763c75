-- One step of a Collatz sequence.
use Rattle.std.proofs.Common.{◌≡◌, ◌≢◌, ℕ, zero, suc, ◌+◌, ◌^◌, ◌<◌, ◌≤◌, ◌==◌, Bool, true, false, nat_lt, ℤ, pos, negsuc, ◌≤ℤ◌, sym, ap, ◌∙◌, subst, refl, arith}
use Rattle.std.proofs.lemmas.Bool.Decides.{nat_tests}
use Rattle.gv_values.specs.declared.fault.FaultKind.{FaultKind}
use Rattle.gv_values.specs.declared.job.JobOutcome.{JobOutcome}
use Rattle.gv_values.specs.declared.job.Job.{Job}
use Rattle.std.proofs.lemmas.Int.{ints}
use lib.IntN.{nat_abs}
use Rattle.world_rules.specs.Evaluate.{next_collatz, collatz, eval}
use Rattle.world_rules.specs.declared.limits.TheConstants.{MOST_STEPS}

not_one : (m : ℕ) → m ≢ 1 → (m == 1) ≡ false
not_one m n = grind (arith, nat_tests)

pub collatz_at_one : (left made m : ℕ) → m ≡ 1 → collatz left made m ≡ JobOutcome.Int (pos made)
unfolding collatz
collatz_at_one zero made m e = rw e refl
collatz_at_one (suc left) made m e = rw e refl

pub collatz_ends_early : (made m : ℕ) → m ≢ 1 → collatz 0 made m ≡ JobOutcome.Fault FaultKind.ValueError
unfolding collatz
collatz_ends_early made m n = rw (not_one m n) refl

-- one more step, by cases on both tests
collatz_cases : (b d : Bool) (left made m : ℕ) → (m == 1) ≡ b → nat_lt (next_collatz m) (2 ^ 63) ≡ d
    → collatz (suc left) made m
    ≡ elim b [ true ↦ JobOutcome.Int (pos made) | false ↦ elim d [ true ↦ collatz left (made + 1) (next_collatz m) | false ↦ JobOutcome.Fault FaultKind.OverflowError ] ]
unfolding collatz
collatz_cases b d left made m is fits i =
    elim (is i) [ true ↦ JobOutcome.Int (pos made) | false ↦ elim (fits i) [ true ↦ collatz left (made + 1) (next_collatz m) | false ↦ JobOutcome.Fault FaultKind.OverflowError ] ]

pub collatz_overflows : (k left made m : ℕ) → k ≡ suc left → m ≢ 1 → 2 ^ 63 ≤ next_collatz m → collatz k made m ≡ JobOutcome.Fault FaultKind.OverflowError
collatz_overflows k left made m is n over =
    let big : nat_lt (next_collatz m) (2 ^ 63) ≡ false = grind (arith, nat_tests) in
    ap (λ j. collatz j made m) is ∙ collatz_cases false false left made m (not_one m n) big

pub collatz_goes_on : (k left made m x : ℕ) → k ≡ suc left → m ≢ 1 → x ≡ next_collatz m → x < 2 ^ 63 → collatz k made m ≡ collatz left (made + 1) x
collatz_goes_on k left made m x is n next fits =
    let fits' : next_collatz m < 2 ^ 63 = subst (λ (y : ℕ). y < 2 ^ 63) next fits in
    let small : nat_lt (next_collatz m) (2 ^ 63) ≡ true = grind (arith, nat_tests) in
    ap (λ j. collatz j made m) is ∙ (collatz_cases false true left made m (not_one m n) small ∙ ap (λ y. collatz left (made + 1) y) (sym next))

-- the job collatz of a positive integer
pub eval_collatz : (z : ℤ) → pos 1 ≤ℤ z → eval (Job.Collatz z) ≡ collatz MOST_STEPS 0 (nat_abs z)
unfolding eval
eval_collatz (pos zero) h = absurd (omega (arith, ints))
eval_collatz (pos (suc n)) h = refl
eval_collatz (negsuc n) h = absurd (omega (arith, ints))
