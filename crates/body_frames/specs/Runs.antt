-- Moves of a body one after another, with nothing of the hub between them. This project's own.
use Rattle.std.specs.Prelude.{ℕ, zero, suc, ◌≡◌, List, [], Option, Some, None}
use Rattle.machine.specs.declared.state.Frame.{Frame}
use Rattle.machine.specs.declared.state.Leaving.{Leaving}
use Rattle.machine.specs.declared.state.Local.{Local}
use Rattle.machine.specs.Bodies.{Stepped, after_move}
use Rattle.machine.specs.BodyMoves.{body_move}
use Rattle.machine.specs.Expressions.{Around}
use Rattle.machine.specs.Unwinding.{Unwound, unwind}
use Rattle.body_locals.specs.Locals.{locals_of}
use Rattle.body_blocks.specs.Trees.{Coded}
use Rattle.body_frames.specs.declared.quick.Quick.{Quick}
use Rattle.body_frames.specs.declared.runs.Halt.{Halt}
use Rattle.body_frames.specs.declared.stack.Made.{Made}
use Rattle.body_frames.specs.declared.stack.Stack.{Stack}
use Rattle.body_frames.specs.declared.unwind.Unwound.{Unwound as Left}
use Rattle.body_entries.specs.Entries.{todo_of}
use Rattle.body_entries.specs.Few.{HasFewToDo}
use Rattle.body_frames.specs.Few.{HasFewBody}
use Rattle.body_frames.specs.Places.{Came, Place, came_by, place_of}
use Rattle.body_frames.specs.Quick.{request_of}
use Rattle.body_frames.specs.Standings.{body_after, made_of}
use Rattle.body_frames.specs.Steady.{IsSteady}

-- what comes of the body's next move
abbrev pub came_of_move : (List Local → Around) → Frame → Came
came_of_move around a = came_by a.locals (body_move a.todo (around a.locals))

-- after so many moves, each of which stays in the body and leaves no timeout block, this comes of the next
abbrev pub MovesOn : (List Local → Around) → ℕ → Frame → Came → Type 0
MovesOn around zero a came = came ≡ came_of_move around a
MovesOn around (suc n) a came = (b : Frame) × (Came.Comes (Place.AtMove [] b) ≡ came_of_move around a) × MovesOn around n b came

-- this was made of the move
abbrev pub HasMoved : Coded → (List Local → Around) → Stack → Made → Stack → Type 0
HasMoved t around old made new = (moves : ℕ) (go : Unwound → Stepped) →
    after_move moves (locals_of t.names old.locals) go (body_move (todo_of t old.todo) (around (locals_of t.names old.locals))) ≡ made_of t moves go made new

-- it was made so, and the body after it, if it goes on by itself, is at its next move, with few arguments in each call
abbrev pub HasCome : Coded → (List Local → Around) → Stack → Made → Stack → Type 0
HasCome t around old made new = IsSteady (body_after t made new) × HasFewBody (body_after t made new) × HasMoved t around old made new

-- the move at the head asked what is answered at once, and nobody takes the answer, or nothing was done
abbrev pub HasAsked : Option Quick → Coded → (List Local → Around) → Stack → Stack → Type 0
HasAsked None t around old new = new ≡ old
HasAsked (Some q) t around old new = HasMoved t around old (Made.Asks (request_of q) None) new

-- what stops a body that asked this, or made no move
abbrev pub halt_of : Option Quick → Halt
halt_of None = Halt.Ahead
halt_of (Some q) = Halt.Asks q

-- how many moves it made besides
abbrev pub more_of : Halt → ℕ
more_of Halt.Ahead = 0
more_of (Halt.Asks q) = 1
more_of Halt.Leaves = 1

-- the body made so many moves, each of which stays in it and leaves no timeout block, and then what stopped it
abbrev pub HasRun : (List Local → Around) → ℕ → Halt → Frame → Frame → Type 0
HasRun around n (Halt.Asks q) a b = MovesOn around n a (Came.Asks (request_of q) b)
HasRun around n Halt.Leaves a b = MovesOn around n a (Came.Comes (place_of (unwind b.todo [] Leaving.Normally b.locals)))
HasRun around zero Halt.Ahead a b = b ≡ a
HasRun around (suc n) Halt.Ahead a b = MovesOn around n a (Came.Comes (Place.AtMove [] b))

-- it was made so, and the body is at its next move
abbrev pub HasStayed : Coded → (List Local → Around) → Stack → Stack → Type 0
HasStayed t around old new = (new.left ≡ []) × HasFewToDo (todo_of t new.todo) × HasMoved t around old (Made.Further Left.Runs) new
