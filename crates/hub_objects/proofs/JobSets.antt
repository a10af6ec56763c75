-- A job that arrives.
use Rattle.std.proofs.Common.{◌≡◌, refl, sym, subst, ◌∙◌, ℕ, zero, suc, ◌-◌, ◌<◌, ◌≤◌, List, [], ◌∷◌, length, Option, Some, None, slice_get, slice_set, slice_index_or, arith}
use Rattle.gv_values.specs.declared.job.JobOutcome.{JobOutcome}
use Rattle.machine.specs.declared.state.JobState.{JobState}
use Rattle.machine.specs.Holds.{job_at}
use Rattle.hub_objects.specs.Jobs.{came_by, job_came}

found : (js : List JobState) (p : ℕ) (d : JobState) → p < length js → slice_get js p ≡ Some (slice_index_or js p d)
found [] p d h = absurd (omega (arith, h))
found (x ∷ js) zero d h = refl
found (x ∷ js) (suc p) d h = found js p d (omega (arith, h))

-- the job of a number from 1 on stands at the place before it
pub numbered : (js : List JobState) (j : ℕ) → 0 < j → job_at j js ≡ slice_get js (j - 1)
numbered js zero h = absurd (omega (arith, h))
numbered [] (suc p) h = refl
numbered (x ∷ js) (suc p) h = let one : suc p - 1 ≡ p = omega arith in rw one refl

-- there is none of number 0
pub none_zero : (js : List JobState) → job_at 0 js ≡ None
none_zero [] = refl
none_zero (x ∷ js) = refl

missing : (js : List JobState) (j : ℕ) → length js < j → job_at j js ≡ None
missing [] j h = refl
missing (x ∷ js) zero h = refl
missing (x ∷ js) (suc p) h = past (x ∷ js) p (omega (arith, h))
  where
    past : (ys : List JobState) (q : ℕ) → length ys ≤ q → slice_get ys q ≡ None
    past [] q e = refl
    past (y ∷ ys) zero e = absurd (omega (arith, e))
    past (y ∷ ys) (suc q) e = past ys q (omega (arith, e))

pub job_set : (js : List JobState) (j : ℕ) (o : JobOutcome) (d : JobState) → 0 < j → j ≤ length js →
    job_came j o js (Some (slice_index_or js (j - 1) d).pool) (slice_set js (j - 1) (record (slice_index_or js (j - 1) d) { outcome = Some o }))
job_set js j o d a h =
    let x = slice_index_or js (j - 1) d in
    subst (λ (y : Option JobState). came_by y j o js (Some x.pool) (slice_set js (j - 1) (record x { outcome = Some o }))) (sym (numbered js j a ∙ found js (j - 1) d (omega (arith, a, h)))) (refl, refl)

pub job_none : (js : List JobState) (j : ℕ) (o : JobOutcome) → length js < j → job_came j o js None js
job_none js j o h = subst (λ (x : Option JobState). came_by x j o js None js) (sym (missing js j h)) (refl, refl)

pub job_zero : (js : List JobState) (j : ℕ) (o : JobOutcome) → j ≡ 0 → job_came j o js None js
job_zero js j o e = rw e (subst (λ (x : Option JobState). came_by x 0 o js None js) (sym (none_zero js)) (refl, refl))
