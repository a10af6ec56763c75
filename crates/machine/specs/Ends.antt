-- How a greenlet ends. gevent API reference, `gevent.Greenlet`, for ends, kills and links.
use Rattle.std.specs.Prelude.{ℕ, map}
use Rattle.gv_values.specs.declared.value.Value.{Value}
use Rattle.gv_values.specs.declared.value.Outcome.{Outcome}
use Rattle.machine.specs.declared.state.Phase.{Phase}
use Rattle.machine.specs.declared.state.Leaving.{Leaving}
use Rattle.trace_text.specs.declared.line.StopCause.{StopCause}
use Rattle.trace_text.specs.declared.line.Line.{Line}
use Rattle.machine.specs.State.{State, say}
use Rattle.machine.specs.Settle.{settle}
use Rattle.machine.specs.Items.{drop_items, goes_at_end}
use Rattle.machine.specs.Greenlets.{with_phase}
use Rattle.machine.specs.Objects.{without_member}

-- what a body that is left so ends with; without a return it is none
abbrev pub outcome_of_leaving : Leaving → Outcome
outcome_of_leaving Leaving.Normally = Outcome.Value Value.Nothing
outcome_of_leaving (Leaving.Raising f) = Outcome.Fault f
outcome_of_leaving (Leaving.Returning v) = Outcome.Value v

-- how a statement goes on that is answered so
abbrev pub leaving_of : Outcome → Leaving
leaving_of (Outcome.Value v) = Leaving.Normally
leaving_of (Outcome.Fault f) = Leaving.Raising f

-- the greenlet ends: it keeps its outcome; its items but the links that fit go, and it leaves its group
abbrev pub ended : ℕ → Outcome → State → State
ended g o s =
    let t = drop_items (goes_at_end g o) (with_phase g (Phase.Done o) (say (Line.End g o) s)) in
    settle (record t { objects = map (without_member g) t.objects })

-- why the run stops when main ends so
abbrev pub stop_of : Outcome → StopCause
stop_of (Outcome.Value v) = StopCause.Value v
stop_of (Outcome.Fault f) = StopCause.Fault f
