-- Each step can be answered.
use Rattle.std.proofs.Common.{◌≡◌, subst, sym, ℕ, zero, suc, List, [], ◌∷◌, pos, negsuc}
use Rattle.gv_values.specs.declared.value.Outcome.{Outcome}
use Rattle.gv_values.specs.declared.value.Value.{Value}
use Rattle.machine.specs.declared.state.Leaving.{Leaving}
use Rattle.machine.specs.declared.state.Local.{Local}
use Rattle.machine.specs.declared.state.Todo.{Todo}
use Rattle.machine.specs.Bodies.{Body, Stepped, after_move, goes, resume}
use Rattle.machine.specs.Expressions.{Around}
use Rattle.machine.specs.BodyMoves.{Did, body_move}
use Rattle.machine.specs.Landing.{given}
use Rattle.machine.specs.Ends.{leaving_of}
use Rattle.machine.specs.Unwinding.{Unwound, unwind}
use Rattle.body_frames.specs.declared.step.Input.{Input}
use Rattle.body_frames.specs.Answers.{Answers, IsAnswer}

-- what answers the step may come to the body
Fits : Stepped → Type 0
Fits s = (input : Input) → Answers s.step input → IsAnswer s.body input

move_fits : (moves : ℕ) (locals : List Local) (go : Unwound → Stepped) (did : Did) → ((u : Unwound) → Fits (go u)) → Fits (after_move moves locals go did)
unfolding Fits
move_fits moves locals go (Did.GoesOn how ls todo) h = h (unwind todo [] how ls)
move_fits moves locals go (Did.Enters ms silent body todo) h = λ input a. a
move_fits moves locals go (Did.Asks request x todo) h = λ input a. a

goes_fits : (moves : ℕ) (around : List Local → Around) (u : Unwound) → Fits (goes moves around u)
unfolding Fits
goes_fits zero around (Unwound.Runs (n ∷ left) locals todo) = λ input a. a
goes_fits zero around (Unwound.Out (n ∷ left) how) = λ input a. a
goes_fits zero around (Unwound.Out [] how) = λ input a. a
goes_fits zero around (Unwound.Runs [] locals todo) = λ input a. a
goes_fits (suc moves) around (Unwound.Runs (n ∷ left) locals todo) = λ input a. a
goes_fits (suc moves) around (Unwound.Out (n ∷ left) how) = λ input a. a
goes_fits (suc moves) around (Unwound.Out [] how) = λ input a. a
goes_fits (suc moves) around (Unwound.Runs [] locals todo) = move_fits moves locals (goes moves around) (body_move todo (around locals)) (λ u. goes_fits moves around u)

resume_fits : (moves : ℕ) (around : List Local → Around) (body : Body) (o : Outcome) → Fits (resume moves around body o)
unfolding Fits
resume_fits moves around (Body.Ready u) o = goes_fits moves around u
resume_fits moves around (Body.Waits frame) o = goes_fits moves around (unwind frame.todo [] (leaving_of o) (given frame o))
resume_fits moves around (Body.Enters silent body locals todo) (Outcome.Value (Value.Int (pos n))) =
    goes_fits moves around (unwind (Todo.Statements body ∷ Todo.Within n silent ∷ todo) [] Leaving.Normally locals)
resume_fits moves around (Body.Enters silent body locals todo) (Outcome.Value (Value.Int (negsuc n))) = λ input a. a
resume_fits moves around (Body.Enters silent body locals todo) (Outcome.Value Value.Nothing) = λ input a. a
resume_fits moves around (Body.Enters silent body locals todo) (Outcome.Value (Value.Bool b)) = λ input a. a
resume_fits moves around (Body.Enters silent body locals todo) (Outcome.Value (Value.Fault f)) = λ input a. a
resume_fits moves around (Body.Enters silent body locals todo) (Outcome.Value (Value.Greenlet g)) = λ input a. a
resume_fits moves around (Body.Enters silent body locals todo) (Outcome.Value (Value.Job j)) = λ input a. a
resume_fits moves around (Body.Enters silent body locals todo) (Outcome.Value (Value.List xs)) = λ input a. a
resume_fits moves around (Body.Enters silent body locals todo) (Outcome.Fault f) = λ input a. a
resume_fits moves around Body.Gone o = λ input a. a

pub answers_fit : (moves : ℕ) (around : List Local → Around) (body : Body) (o : Outcome) (s : Stepped) → s ≡ resume moves around body o →
    (input : Input) → Answers s.step input → IsAnswer s.body input
unfolding Fits
answers_fit moves around body o s e = subst Fits (sym e) (resume_fits moves around body o)
