-- How a greenlet goes on, and where what it ends with lands (greenlet documentation, parents, switching, exceptions).
use Rattle.std.specs.Prelude.{ℕ, zero, suc, ◌==◌, List, [], ◌∷◌, length, None, if◌then◌else◌}
use Rattle.gv_values.specs.declared.value.Value.{Value}
use Rattle.gv_values.specs.declared.value.Outcome.{Outcome}
use Rattle.machine.specs.declared.state.Phase.{Phase}
use Rattle.machine.specs.declared.state.Local.{Local}
use Rattle.machine.specs.declared.state.Leaving.{Leaving}
use Rattle.machine.specs.declared.state.Todo.{Todo}
use Rattle.trace_text.specs.declared.line.StopCause.{StopCause}
use Rattle.trace_text.specs.declared.line.Line.{Line}
use Rattle.machine.specs.State.{State, say}
use Rattle.machine.specs.Unwinding.{unwind, Unwound, bind_if}
use Rattle.machine.specs.Items.{drop_items, is_timeout_of}
use Rattle.machine.specs.Greenlets.{greenlet, with_phase, frame_of, function_of, named}
use Rattle.machine.specs.Ends.{ended, outcome_of_leaving, leaving_of, stop_of}
use Rattle.gv_values.specs.Ends.{kept}
use Rattle.machine.specs.declared.state.Frame.{Frame}

-- how the hub goes on: a greenlet is at its next move, or none is under way, or the run is over
pub data Next : Type 0 where
  Going : ℕ → State → Next
  Resting : State → Next
  Over : StopCause → State → Next

-- what takes an input that lands at a greenlet
abbrev pub Landing : Type 0
Landing = ℕ → Outcome → State → Next

-- The greenlet ends. A raw one's outcome lands at its parent, and main's end is the end of the run.
abbrev pub after_end : Landing → ℕ → Outcome → State → Next
after_end up g o s =
    if (greenlet g s).raw then up (greenlet g s).parent (kept o) (ended g (kept o) s)
    else (if g == 0 then Next.Over (stop_of (kept o)) (ended g (kept o) s) else Next.Resting (ended g (kept o) s))

-- the greenlet goes on with this to do, to its next move or to its end
abbrev pub goes_on : Landing → ℕ → Unwound → State → Next
goes_on up g (Unwound.Runs left locals todo) s =
    Next.Going g (with_phase g (Phase.Live (record { locals = locals; todo = todo; gives = None })) (drop_items (is_timeout_of g left) s))
goes_on up g (Unwound.Out left how) s = after_end up g (outcome_of_leaving how) (drop_items (is_timeout_of g left) s)

-- a body starts
abbrev pub starts : Landing → ℕ → List Value → State → Next
starts up g args s =
    let f = function_of (greenlet g s).function s in
    goes_on up g (unwind (Todo.Statements f.body ∷ []) [] Leaving.Normally (named f.parameters args)) (say (Line.Start g f.name) s)

-- the name that is given takes the value
abbrev pub given : Frame → Outcome → List Local
given frame (Outcome.Value v) = bind_if frame.gives v frame.locals
given frame (Outcome.Fault f) = frame.locals

-- a statement is answered with a value or a fault
abbrev pub resumes : Landing → ℕ → Frame → Outcome → State → Next
resumes up g frame o s = goes_on up g (unwind frame.todo [] (leaving_of o) (given frame o)) s

-- the input lands at the greenlet, once; what goes up is handed to `up`
abbrev pub lands_once : Landing → Landing
lands_once up g input s =
    elim (greenlet g s).phase [
      | Phase.Done o ↦ up (greenlet g s).parent (kept input) s
      | Phase.Live frame ↦ resumes up g frame input (say (Line.Into g input) s)
      | Phase.New args ↦ elim input [
        | Outcome.Value v ↦ starts up g (v ∷ []) s
        | Outcome.Fault f ↦ after_end up g (Outcome.Fault f) s
      ]
    ]

-- An input lands at a greenlet, and goes on to parents, at most n of them.
abbrev pub land : ℕ → Landing
land zero g input s = Next.Resting s
land (suc n) g input s = lands_once (land n) g input s

-- no chain of parents is longer than the number of greenlets
abbrev pub lands : Landing
lands g input s = land (length s.greenlets) g input s

-- the statement of the greenlet is answered
abbrev pub answered : ℕ → Outcome → State → Next
answered g o s = resumes lands g (frame_of (greenlet g s).phase) o s
