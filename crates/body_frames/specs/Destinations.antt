-- Where a body comes to that stays where it is.
use Rattle.std.specs.Prelude.{ℕ, ◌≡◌, ◌∷◌, [], None}
use Rattle.machine.specs.declared.state.Frame.{Frame}
use Rattle.machine.specs.declared.state.Leaving.{Leaving}
use Rattle.machine.specs.declared.state.Todo.{Todo}
use Rattle.machine.specs.Unwinding.{unwind}
use Rattle.body_frames.specs.declared.running.Destination.{Destination}
use Rattle.body_frames.specs.declared.running.Moved.{Moved}
use Rattle.body_entries.specs.Few.{HasFewToDo}
use Rattle.body_frames.specs.Places.{Came, Entered, Place, place_of}
use Rattle.body_frames.specs.PrimitiveMoves.{RunsAt}

-- it is at its next move, waits for no answer, and each call of what it has still to do has few arguments
pub record IsMoving (a : Frame) : Type 0 where
  pub runs : RunsAt a.todo
  pub unheard : a.gives ≡ None
  pub few : HasFewToDo a.todo

-- the body comes to this place: it stands so at its next move, or has ended
abbrev pub Arrives : Place → Destination → Frame → Type 0
Arrives place (Destination.Move left) b = (place ≡ Place.AtMove left b) × IsMoving b
Arrives place (Destination.End left o) b = place ≡ Place.AtEnd left o

-- the place that a body comes to inside the timeout block of this number
abbrev pub inside : ℕ → Entered → Place
inside n e = place_of (unwind (Todo.Statements e.body ∷ Todo.Within n e.silent ∷ e.todo) [] Leaving.Normally e.locals)

-- this came of its move, after which it stands so: inside the timeout block that it enters, if that has this number
abbrev pub HasMovedOn : ℕ → Came → Moved → Frame → Type 0
HasMovedOn n came (Moved.Comes to) b = (place : Place) × (came ≡ Came.Comes place) × Arrives place to b
HasMovedOn n came (Moved.Asks request) b = (came ≡ Came.Asks request b) × HasFewToDo b.todo
HasMovedOn n came (Moved.Enters ms to) b = (e : Entered) × (came ≡ Came.Enters ms e) × Arrives (inside n e) to b
