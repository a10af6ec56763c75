-- Greenlets of a state: how one is found, made, and comes further. This project's own.
use Rattle.std.specs.Prelude.{ℕ, Bool, false, List, [], ◌∷◌, length, None, slice_get, slice_set, nat_lt, unwrap_or, ◌++◌}
use Rattle.gv_values.specs.declared.value.Value.{Value}
use Rattle.gv_values.specs.declared.value.Outcome.{Outcome}
use Rattle.machine.specs.declared.state.Phase.{Phase}
use Rattle.machine.specs.declared.state.Local.{Local}
use Rattle.machine.specs.State.{State, Name}
use Rattle.scenario_tree.specs.declared.tree.Function.{Function}
use Rattle.machine.specs.declared.state.Greenlet.{Greenlet}
use Rattle.machine.specs.declared.state.Frame.{Frame}
use Rattle.machine.specs.declared.limits.TheConstants.{MOST_GREENLETS}

-- in place of a greenlet that was never made: one that has ended, so that nothing comes of its handle
abbrev pub nobody : Greenlet
nobody = record { raw = false; parent = 0; function = 0; phase = Phase.Done (Outcome.Value Value.Nothing) }

-- the greenlet of this number
abbrev pub greenlet : ℕ → State → Greenlet
greenlet g s = unwrap_or (slice_get s.greenlets g) nobody

-- the state where the greenlet has come so far
abbrev pub with_phase : ℕ → Phase → State → State
with_phase g phase s = record s { greenlets = slice_set s.greenlets g (record (greenlet g s) { phase = phase }) }

-- in place of a function that is not declared
abbrev pub no_function : Function
no_function = record { line = 0; is_raw = false; name = []; parameters = []; body = [] }

-- the function of this number
abbrev pub function_of : ℕ → State → Function
function_of f s = unwrap_or (slice_get s.scenario.functions f) no_function

-- one more greenlet may be made
abbrev pub has_greenlet_left : State → Bool
has_greenlet_left s = nat_lt (length s.greenlets) MOST_GREENLETS

-- the state with one greenlet more, New with these arguments, whose number is the number of those before it
abbrev pub add_greenlet : Bool → ℕ → ℕ → List Value → State → State
add_greenlet raw parent f args s = record s { greenlets = s.greenlets ++ record { raw = raw; parent = parent; function = f; phase = Phase.New args } ∷ [] }

-- the parameters with the arguments as their values
abbrev pub named : List Name → List Value → List Local
named (x ∷ xs) (v ∷ vs) = record { name = x; value = v } ∷ named xs vs
named xs vs = []

-- in place of the body of a greenlet that is not live
abbrev pub no_frame : Frame
no_frame = record { locals = []; todo = []; gives = None }

-- the body of a live greenlet
abbrev pub frame_of : Phase → Frame
frame_of (Phase.Live frame) = frame
frame_of _ = no_frame
