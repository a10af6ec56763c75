-- The machine's phase of a greenlet that the hub keeps.
use Rattle.std.specs.Prelude.{ℕ, Bool}
use Rattle.machine.specs.declared.state.Greenlet.{Greenlet as Shown}
use Rattle.machine.specs.declared.state.Phase.{Phase}
use Rattle.machine.specs.Greenlets.{no_frame}
use Rattle.hub_state.specs.declared.greenlets.Stage.{Stage}

-- the phase of the machine; the body of a greenlet that is under way is with the hub's step
abbrev pub phase_of_stage : Stage → Phase
phase_of_stage (Stage.New args) = Phase.New args
phase_of_stage (Stage.Parked frame) = Phase.Live frame
phase_of_stage Stage.UnderWay = Phase.Live no_frame
phase_of_stage (Stage.Done o) = Phase.Done o

-- a greenlet by its parts
abbrev pub shown : Bool → ℕ → ℕ → Phase → Shown
shown raw parent function phase = record { raw = raw; parent = parent; function = function; phase = phase }
