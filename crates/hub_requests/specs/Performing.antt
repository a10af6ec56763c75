-- What the code says comes of a request, as the machine says it.
use Rattle.std.specs.Prelude.{Bool}
use Rattle.gv_values.specs.declared.fault.FaultKind.{FaultKind}
use Rattle.gv_values.specs.declared.value.Outcome.{Outcome}
use Rattle.gv_values.specs.declared.value.Value.{Value}
use Rattle.machine.specs.State.{State}
use Rattle.machine.specs.Waits.{Performed}
use Rattle.hub_requests.specs.declared.performed.Performed.{Performed as Came}

-- what came of a request, in this state
abbrev pub performed_of : Came → State → Performed
performed_of (Came.Answers o) s = Performed.Answers o s
performed_of Came.Parks s = Performed.Parks s
performed_of (Came.Lands g o) s = Performed.Lands g o s
performed_of (Came.Stops cause) s = Performed.Stops cause s

abbrev pub nothing_answered : Came
nothing_answered = Came.Answers (Outcome.Value Value.Nothing)

abbrev pub truth_answered : Bool → Came
truth_answered b = Came.Answers (Outcome.Value (Value.Bool b))

abbrev pub raised : FaultKind → Came
raised f = Came.Answers (Outcome.Fault f)
