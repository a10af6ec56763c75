-- Where a body comes to between two steps of the hub. This project's own.
use Rattle.std.specs.Prelude.{ℕ, Bool, List, [], Option, None}
use Rattle.scenario_tree.specs.declared.tree.Statement.{Statement}
use Rattle.gv_values.specs.declared.value.Outcome.{Outcome}
use Rattle.machine.specs.declared.state.Frame.{Frame}
use Rattle.machine.specs.declared.state.Local.{Local}
use Rattle.machine.specs.declared.state.Todo.{Todo}
use Rattle.machine.specs.declared.request.Request.{Request}
use Rattle.machine.specs.BodyMoves.{Did}
use Rattle.machine.specs.Ends.{outcome_of_leaving}
use Rattle.machine.specs.Unwinding.{Unwound, unwind}

-- where a body comes to by itself; first the numbers of the timeout blocks that it left
pub data Place : Type 0 where
  AtMove : List ℕ → Frame → Place
  AtEnd : List ℕ → Outcome → Place

-- the place after a block was left
abbrev pub place_of : Unwound → Place
place_of (Unwound.Runs left locals todo) = Place.AtMove left (record { locals = locals; todo = todo; gives = None })
place_of (Unwound.Out left how) = Place.AtEnd left (outcome_of_leaving how)

-- a body that enters a timeout block: whether that is silent, its body, the locals, and what is to do after it
pub record Entered : Type 0 where
  pub silent : Bool
  pub body : List Statement
  pub locals : List Local
  pub todo : List Todo

-- what comes of one move
pub data Came : Type 0 where
  -- it stays in the body
  Comes : Place → Came
  -- it asks, and stands so until it is answered
  Asks : Request → Frame → Came
  -- it enters a timeout block, with its time if it has one
  Enters : Option ℕ → Entered → Came

-- what comes of what the move did
abbrev pub came_by : List Local → Did → Came
came_by locals (Did.GoesOn how after todo) = Came.Comes (place_of (unwind todo [] how after))
came_by locals (Did.Enters ms silent body todo) = Came.Enters ms (record { silent = silent; body = body; locals = locals; todo = todo })
came_by locals (Did.Asks request x todo) = Came.Asks request (record { locals = locals; todo = todo; gives = x })
