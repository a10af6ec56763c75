-- A body whose calls have few arguments keeps that, as the code comes to it.
use Rattle.std.proofs.Common.{◌≡◌, subst, ℕ, List, []}
use Rattle.machine.specs.declared.state.Leaving.{Leaving}
use Rattle.machine.specs.declared.state.Local.{Local}
use Rattle.machine.specs.declared.state.Todo.{Todo}
use Rattle.machine.specs.Bodies.{Stepped, after_move}
use Rattle.machine.specs.Expressions.{Around}
use Rattle.machine.specs.BodyMoves.{Did, body_move}
use Rattle.machine.specs.Unwinding.{Unwound, unwind}
use Rattle.body_entries.specs.Few.{HasFewToDo}
use Rattle.body_frames.specs.Few.{HasFewBody, HasFewDid, HasFewUnwound}
use Rattle.body_blocks.specs.Trees.{Coded}
use Rattle.body_frames.specs.declared.stack.Made.{Made}
use Rattle.body_frames.specs.declared.stack.Stack.{Stack}
use Rattle.body_frames.specs.Standings.{body_after, made_of, stands}
use Rattle.body_frames.proofs.Few.{move-few, unwind-few}

-- what a block is left to
pub few_as : (u : Unwound) (todo : List Todo) (left : List ℕ) (how : Leaving) (locals : List Local) → unwind todo left how locals ≡ u → HasFewToDo todo → HasFewUnwound u
few_as u todo left how locals e h = subst HasFewUnwound e (unwind-few todo left how locals h)

after : (locals : List Local) (did : Did) → HasFewDid did → HasFewBody (after_move 0 locals stands did).body
after locals (Did.GoesOn how ls todo) h = unwind-few todo [] how ls h
after locals (Did.Enters ms silent body todo) h = h
after locals (Did.Asks request x todo) h = h.1

-- what a move comes to
pub move_stays_few : (t : Coded) (todo : List Todo) (a : Around) (locals : List Local) (made : Made) (s : Stack) → HasFewToDo todo →
    ((moves : ℕ) (go : Unwound → Stepped) → after_move moves locals go (body_move todo a) ≡ made_of t moves go made s) → HasFewBody (body_after t made s)
move_stays_few t todo a locals made s h e = subst (λ (x : Stepped). HasFewBody x.body) (e 0 stands) (after locals (body_move todo a) (move-few todo a h))
