-- A body by itself: what it asks of the hub, one request after another, and the moves that it takes. This project's
-- own.
use Rattle.std.specs.Prelude.{ℕ, zero, suc, Bool, List, [], ◌∷◌, Option, pos}
use Rattle.scenario_tree.specs.declared.tree.Function.{Function}
use Rattle.scenario_tree.specs.declared.tree.Scenario.{Scenario}
use Rattle.scenario_tree.specs.declared.tree.Statement.{Statement}
use Rattle.gv_values.specs.declared.value.Outcome.{Outcome}
use Rattle.gv_values.specs.declared.value.Value.{Value}
use Rattle.machine.specs.declared.state.Frame.{Frame}
use Rattle.machine.specs.declared.state.Leaving.{Leaving}
use Rattle.machine.specs.declared.state.Local.{Local}
use Rattle.machine.specs.declared.state.Todo.{Todo}
use Rattle.machine.specs.Expressions.{Look, Around}
use Rattle.machine.specs.BodyMoves.{Did, body_move}
use Rattle.machine.specs.declared.request.Request.{Request}
use Rattle.machine.specs.Landing.{given}
use Rattle.machine.specs.Ends.{leaving_of, outcome_of_leaving}
use Rattle.machine.specs.Greenlets.{named}
use Rattle.machine.specs.Unwinding.{Unwound, unwind}

-- where a body stands between two steps
pub data Body : Type 0 where
  -- it goes on by itself, where it has not begun or a timeout block was left
  Ready : Unwound → Body
  -- it waits for the answer to its request
  Waits : Frame → Body
  -- it waits for the number of the timeout block that it enters: whether that is silent, its body, the locals, and what
  -- is to do after it
  Enters : Bool → List Statement → List Local → List Todo → Body
  -- it has ended
  Gone : Body

-- what a step of a body comes to
pub data Step : Type 0 where
  Asks : Request → Step
  -- a timeout block is entered, with its time if it has one; the answer is its number
  EntersTimeout : Option ℕ → Bool → Step
  -- the timeout block of this number was left
  LeavesTimeout : ℕ → Step
  Ends : Outcome → Step
  -- a move would begin where none is left
  MovesOut : Step

-- a step, with where the body then stands and the moves that are left
pub record Stepped : Type 0 where
  pub step : Step
  pub body : Body
  pub moves : ℕ

-- what comes of a move, where the body goes on so if it asks nothing
abbrev pub after_move : ℕ → List Local → (Unwound → Stepped) → Did → Stepped
after_move moves locals go (Did.GoesOn how locals' todo) = go (unwind todo [] how locals')
after_move moves locals go (Did.Enters ms silent body todo) = record { step = Step.EntersTimeout ms silent; body = Body.Enters silent body locals todo; moves = moves }
after_move moves locals go (Did.Asks request x todo) = record { step = Step.Asks request; body = Body.Waits (record { locals = locals; todo = todo; gives = x }); moves = moves }

-- The body goes on to its next request or its end, within so many moves. The timeout blocks that were left come first,
-- innermost first.
abbrev pub goes : ℕ → (List Local → Around) → Unwound → Stepped
goes moves around (Unwound.Runs (n ∷ left) locals todo) = record { step = Step.LeavesTimeout n; body = Body.Ready (Unwound.Runs left locals todo); moves = moves }
goes moves around (Unwound.Out (n ∷ left) how) = record { step = Step.LeavesTimeout n; body = Body.Ready (Unwound.Out left how); moves = moves }
goes moves around (Unwound.Out [] how) = record { step = Step.Ends (outcome_of_leaving how); body = Body.Gone; moves = moves }
goes zero around (Unwound.Runs [] locals todo) = record { step = Step.MovesOut; body = Body.Ready (Unwound.Runs [] locals todo); moves = zero }
goes (suc moves) around (Unwound.Runs [] locals todo) = after_move moves locals (goes moves around) (body_move todo (around locals))

-- where an expression of the body stands
abbrev pub around : Scenario → Look → List Local → Around
around c look locals = record { scenario = c; look = look; locals = locals }

-- a body of the function with these arguments, which has not begun
abbrev pub begins : Function → List Value → Body
begins f args = Body.Ready (unwind (Todo.Statements f.body ∷ []) [] Leaving.Normally (named f.parameters args))

-- The body goes on with this input. At its beginning and after a timeout block was left the input is not looked at.
abbrev pub resume : ℕ → (List Local → Around) → Body → Outcome → Stepped
resume moves around (Body.Ready unwound) input = goes moves around unwound
resume moves around (Body.Waits frame) input = goes moves around (unwind frame.todo [] (leaving_of input) (given frame input))
resume moves around (Body.Enters silent body locals todo) (Outcome.Value (Value.Int (pos n))) =
    goes moves around (unwind (Todo.Statements body ∷ Todo.Within n silent ∷ todo) [] Leaving.Normally locals)
-- a timeout block is answered with a number, and a body that has ended is not resumed
resume moves around body input = record { step = Step.Ends input; body = Body.Gone; moves = moves }
