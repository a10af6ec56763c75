-- What a release and the end of a task come to.
use Rattle.std.proofs.Common.{◌≡◌, refl, ℕ, zero, suc, ◌+◌, ◌-◌, ◌==◌, Bool, true, false, Option, Some, None, unwrap_or, arith}
use Rattle.std.specs.Prelude.{if◌then◌else◌, nat_lt}
use Rattle.std.proofs.lemmas.Bool.Decides.{nat_tests}
use Rattle.gv_values.specs.declared.fault.FaultKind.{FaultKind}
use Rattle.machine.specs.declared.state.Object.{Object}
use Rattle.machine.specs.Objects.{at_bound, after_release, no_object, with_object}
use Rattle.machine.specs.Request.{done, finishes, releases}
use Rattle.machine.specs.State.{State}
use Rattle.machine.specs.Waits.{Performed, raises}
use Rattle.hub_objects.specs.Changes.{with_owner_gone, with_task_done, with_unit}
use Rattle.hub_objects.specs.Releases.{has_task, release_of}
use Rattle.hub_objects.specs.declared.releases.Release.{Release}

-- what is done of a release
abbrev pub released_by : Release → ℕ → ℕ → Object → State → Performed
released_by (Release.Refused f) g o x s = raises f s
released_by Release.Nothing g o x s = done s
released_by Release.Unit g o x s = done (with_object o (with_unit x) s)
released_by Release.Owner g o x s = done (with_object o (with_owner_gone g x) s)

of-object : (g o : ℕ) (x : Object) (s : State) → releases g o x s ≡ released_by (release_of g (Some x)) g o x s
of-object g o (Object.Semaphore counter bound) s = by (at_bound counter bound)
  where
    by : (b : Bool) → (if b then raises FaultKind.ValueError s else done (with_object o (Object.Semaphore (counter + 1) bound) s))
        ≡ released_by (if b then Release.Refused FaultKind.ValueError else Release.Unit) g o (Object.Semaphore counter bound) s
    by true = refl
    by false = refl
of-object g o (Object.Lock (Some h) depth) s = by (g == h)
  where
    by : (b : Bool) → (if b then done (with_object o (Object.Lock (after_release g (depth - 1)) (depth - 1)) s) else raises FaultKind.RuntimeError s)
        ≡ released_by (if b then Release.Owner else Release.Refused FaultKind.RuntimeError) g o (Object.Lock (Some h) depth) s
    by true = refl
    by false = refl
of-object g o (Object.Lock None depth) s = refl
of-object g o (Object.Event flag sets) s = refl
of-object g o (Object.Result x) s = refl
of-object g o (Object.Queue kind size items unfinished shut) s = refl
of-object g o (Object.Channel offers) s = refl
of-object g o (Object.Crew size members) s = refl
of-object g o (Object.Native slots outstanding) s = refl

-- also in place of an object that is not declared
pub released : (g o : ℕ) (x : Option Object) (s : State) → releases g o (unwrap_or x no_object) s ≡ released_by (release_of g x) g o (unwrap_or x no_object) s
released g o None s = refl
released g o (Some x) s = of-object g o x s

finished-task : (o : ℕ) (x : Object) (s : State) → finishes o x s ≡ (if has_task (Some x) then done (with_object o (with_task_done x) s) else raises FaultKind.ValueError s)
finished-task o (Object.Queue kind size items zero shut) s = refl
finished-task o (Object.Queue kind size items (suc n) shut) s =
    let some : nat_lt 0 (suc n) ≡ true = grind (arith, nat_tests) in
    let one : suc n - 1 ≡ n = omega arith in
    rw some (rw one refl)
finished-task o (Object.Event flag sets) s = refl
finished-task o (Object.Result x) s = refl
finished-task o (Object.Semaphore counter bound) s = refl
finished-task o (Object.Lock owner depth) s = refl
finished-task o (Object.Channel offers) s = refl
finished-task o (Object.Crew size members) s = refl
finished-task o (Object.Native slots outstanding) s = refl

pub finished : (o : ℕ) (x : Option Object) (s : State) →
    finishes o (unwrap_or x no_object) s ≡ (if has_task x then done (with_object o (with_task_done (unwrap_or x no_object)) s) else raises FaultKind.ValueError s)
finished o None s = refl
finished o (Some x) s = finished-task o x s
