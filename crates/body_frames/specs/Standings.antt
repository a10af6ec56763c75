-- What the types of the code stand for, where these are the names and the blocks of its code.
use Rattle.std.specs.Prelude.{ℕ, None}
use Rattle.machine.specs.declared.state.Frame.{Frame}
use Rattle.machine.specs.Bodies.{Body, Step, Stepped}
use Rattle.machine.specs.Unwinding.{Unwound}
use Rattle.body_locals.specs.Locals.{locals_of}
use Rattle.body_blocks.specs.Trees.{Coded, block_at, name_if}
use Rattle.body_frames.specs.declared.frame.Standing.{Standing}
use Rattle.body_frames.specs.declared.places.Reached.{Reached}
use Rattle.body_frames.specs.declared.stack.Made.{Made}
use Rattle.body_frames.specs.declared.stack.Stack.{Stack}
use Rattle.body_frames.specs.declared.step.Step.{Step as Told}
use Rattle.body_frames.specs.declared.unwind.Unwound.{Unwound as Left}
use Rattle.body_entries.specs.Entries.{todo_of}
use Rattle.body_frames.specs.Places.{Came, Place, place_of}
use Rattle.body_frames.specs.Steps.{step_of}
use Rattle.body_frames.specs.Unwinding.{unwound_of}

-- where the body goes on by itself
abbrev pub goes_from : Coded → Left → Stack → Unwound
goes_from t at s = unwound_of at s.left (locals_of t.names s.locals) (todo_of t s.todo)

-- the body of the definitions
abbrev pub body_of : Coded → Standing → Stack → Body
body_of t (Standing.Ready at) s = Body.Ready (goes_from t at s)
body_of t (Standing.Waits x) s = Body.Waits (record { locals = locals_of t.names s.locals; todo = todo_of t s.todo; gives = name_if t x })
body_of t (Standing.Enters silent b) s = Body.Enters silent (block_at b t) (locals_of t.names s.locals) (todo_of t s.todo)
body_of t Standing.Gone s = Body.Gone

-- a step, where the body then stands, and the moves that are left
abbrev pub stepped : Told → Body → ℕ → Stepped
stepped step body moves = record { step = step_of step; body = body; moves = moves }

-- what came of a move, where the body goes on so by itself
abbrev pub made_of : Coded → ℕ → (Unwound → Stepped) → Made → Stack → Stepped
made_of t moves go (Made.Asks request x) s = record { step = Step.Asks request; body = Body.Waits (record { locals = locals_of t.names s.locals; todo = todo_of t s.todo; gives = name_if t x }); moves = moves }
made_of t moves go (Made.Enters ms silent b) s = record { step = Step.EntersTimeout ms silent; body = Body.Enters silent (block_at b t) (locals_of t.names s.locals) (todo_of t s.todo); moves = moves }
made_of t moves go (Made.Further at) s = go (goes_from t at s)

-- a body stands where it goes on
abbrev pub stands : Unwound → Stepped
stands u = record { step = Step.MovesOut; body = Body.Ready u; moves = 0 }

-- the body after the move
abbrev pub body_after : Coded → Made → Stack → Body
body_after t made s = (made_of t 0 stands made s).body

-- where a body came to
abbrev pub reached_of : Reached → Place
reached_of (Reached.Move left moving) = Place.AtMove left moving
reached_of (Reached.End left outcome) = Place.AtEnd left outcome

-- what was made of the move
abbrev pub came_of_made : Coded → Made → Stack → Came
came_of_made t (Made.Asks request x) s = Came.Asks request (record { locals = locals_of t.names s.locals; todo = todo_of t s.todo; gives = name_if t x })
came_of_made t (Made.Enters ms silent b) s = Came.Enters ms (record { silent = silent; body = block_at b t; locals = locals_of t.names s.locals; todo = todo_of t s.todo })
came_of_made t (Made.Further at) s = Came.Comes (place_of (goes_from t at s))

-- a body at its next move
abbrev pub frame_of : Coded → Stack → Frame
frame_of t s = record { locals = locals_of t.names s.locals; todo = todo_of t s.todo; gives = None }
