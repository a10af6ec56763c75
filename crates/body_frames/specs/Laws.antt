-- Each step of a body keeps that its requests have few arguments. This project's own.
use Rattle.std.specs.Prelude.{ℕ, List, ◌∷◌}
use Rattle.gv_values.specs.declared.value.Outcome.{Outcome}
use Rattle.gv_values.specs.declared.value.Value.{Value}
use Rattle.scenario_tree.specs.declared.tree.Action.{out-Action}
use Rattle.scenario_tree.specs.declared.tree.Function.{Function}
use Rattle.scenario_tree.specs.declared.tree.Statement.{Statement, out-Statement}
use Rattle.machine.specs.declared.state.Leaving.{Leaving}
use Rattle.machine.specs.declared.state.Local.{Local}
use Rattle.machine.specs.declared.state.Todo.{Todo}
use Rattle.machine.specs.Bodies.{Body, begins, resume}
use Rattle.machine.specs.Expressions.{Around}
use Rattle.machine.specs.BodyMoves.{body_move}
use Rattle.machine.specs.Unwinding.{unwind}
use Rattle.body_blocks.specs.Few.{HasFew, HasFewParts}
use Rattle.body_entries.specs.Few.{HasFewToDo}
use Rattle.body_frames.specs.Few.{HasFewBody, HasFewDid, HasFewStep, HasFewUnwound}

-- so it is where a body of such a function begins
abbrev pub BeginsFew : Type 0
BeginsFew = (f : Function) (args : List Value) → HasFew f.body → HasFewBody (begins f args)

-- so it stays where a block is left
abbrev pub UnwindsFew : Type 0
UnwindsFew = (todo : List Todo) (left : List ℕ) (how : Leaving) (locals : List Local) → HasFewToDo todo → HasFewUnwound (unwind todo left how locals)

-- so it is with the statement at the head of what is still to do, by its form
abbrev pub HeadHasFew : Type 0
HeadHasFew = (s : Statement) (ss : List Statement) (todo : List Todo) → HasFewToDo (Todo.Statements (s ∷ ss) ∷ todo) →
    HasFewParts (out-Action (out-Statement s).action)

-- so it stays after a move, and what the move asks gives few arguments
abbrev pub MovesFew : Type 0
MovesFew = (todo : List Todo) (a : Around) → HasFewToDo todo → HasFewDid (body_move todo a)

-- so it stays after a step
abbrev pub ResumesFew : Type 0
ResumesFew = (moves : ℕ) (around : List Local → Around) (body : Body) (input : Outcome) → HasFewBody body → HasFewBody (resume moves around body input).body

-- what the step asks gives few arguments
abbrev pub StepsAskFew : Type 0
StepsAskFew = (moves : ℕ) (around : List Local → Around) (body : Body) (input : Outcome) → HasFewBody body → HasFewStep (resume moves around body input).step
