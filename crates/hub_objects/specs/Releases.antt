-- What a `release` and a `qdone` come to.
use Rattle.std.specs.Prelude.{ℕ, ◌==◌, Bool, false, Option, Some, None, if◌then◌else◌, nat_lt}
use Rattle.gv_values.specs.declared.fault.FaultKind.{FaultKind}
use Rattle.machine.specs.declared.state.Object.{Object}
use Rattle.machine.specs.Objects.{at_bound}
use Rattle.machine.specs.Request.{done}
use Rattle.machine.specs.State.{State}
use Rattle.machine.specs.Waits.{Performed, raises}
use Rattle.hub_objects.specs.declared.releases.Release.{Release}

-- the fault, or none, after which the state is this
abbrev pub refused : Option FaultKind → State → Performed
refused None s = done s
refused (Some f) s = raises f s

-- what a release of this greenlet comes to
abbrev pub release_of : ℕ → Option Object → Release
release_of g (Some (Object.Semaphore counter bound)) = if at_bound counter bound then Release.Refused FaultKind.ValueError else Release.Unit
release_of g (Some (Object.Lock (Some h) depth)) = if g == h then Release.Owner else Release.Refused FaultKind.RuntimeError
release_of g (Some (Object.Lock None depth)) = Release.Refused FaultKind.RuntimeError
release_of g object = Release.Nothing

-- a task is unfinished
abbrev pub has_task : Option Object → Bool
has_task (Some (Object.Queue kind size items unfinished shut)) = nat_lt 0 unfinished
has_task object = false
