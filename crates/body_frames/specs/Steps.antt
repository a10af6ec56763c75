-- What a step of a body and its input stand for.
use Rattle.gv_values.specs.declared.value.Outcome.{Outcome}
use Rattle.gv_values.specs.declared.value.Value.{Value}
use Rattle.machine.specs.Bodies.{Step}
use Rattle.body_frames.specs.declared.step.Input.{Input}
use Rattle.body_frames.specs.declared.step.Step.{Step as Came}

-- the step of the definitions
abbrev pub step_of : Came → Step
step_of (Came.Request r) = Step.Asks r
step_of (Came.EnterTimeout ms silent) = Step.EntersTimeout ms silent
step_of (Came.LeaveTimeout n) = Step.LeavesTimeout n
step_of (Came.Ended o) = Step.Ends o
step_of Came.MovesOut = Step.MovesOut

-- the beginning has nothing to look at
abbrev pub answer_of : Input → Outcome
answer_of Input.Begin = Outcome.Value Value.Nothing
answer_of (Input.Value v) = Outcome.Value v
answer_of (Input.Fault f) = Outcome.Fault f
