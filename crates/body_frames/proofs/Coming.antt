-- What comes of one move, of an answer, and of the entering of a timeout block.
use Rattle.std.proofs.Common.{◌≡◌, refl, ap, subst, sym, ◌∙◌, ℕ, Bool, List, [], ◌∷◌, Option}
use Rattle.gv_values.specs.declared.value.Outcome.{Outcome}
use Rattle.machine.specs.declared.state.Frame.{Frame}
use Rattle.machine.specs.declared.state.Leaving.{Leaving}
use Rattle.machine.specs.declared.state.Local.{Local}
use Rattle.machine.specs.declared.state.Todo.{Todo}
use Rattle.machine.specs.Bodies.{Body, Step, Stepped, after_move}
use Rattle.machine.specs.BodyMoves.{Did, body_move}
use Rattle.machine.specs.Ends.{leaving_of}
use Rattle.machine.specs.Expressions.{Around}
use Rattle.machine.specs.Landing.{given}
use Rattle.machine.specs.Unwinding.{Unwound, unwind}
use Rattle.body_locals.specs.declared.locals.Bound.{Bound}
use Rattle.body_locals.specs.Locals.{locals_of}
use Rattle.body_names.specs.declared.expression.LocalSlot.{LocalSlot}
use Rattle.body_blocks.specs.Trees.{Coded, block_at, name_if}
use Rattle.body_entries.specs.declared.entry.Entry.{Entry}
use Rattle.body_frames.specs.declared.stack.Made.{Made}
use Rattle.body_frames.specs.declared.stack.Stack.{Stack}
use Rattle.body_frames.specs.declared.unwind.Unwound.{Unwound as Left}
use Rattle.body_frames.specs.Places.{Came, came_by, place_of}
use Rattle.body_entries.specs.Entries.{todo_of}
use Rattle.body_entries.specs.Few.{HasFewToDo}
use Rattle.body_frames.specs.Runs.{HasMoved, came_of_move}
use Rattle.body_frames.specs.Standings.{came_of_made, goes_from, made_of, stands}

-- what comes of a step, after which the body stands so
came_from : Step → Body → Came
came_from (Step.Asks request) (Body.Waits frame) = Came.Asks request frame
came_from (Step.EntersTimeout ms before) (Body.Enters silent body locals todo) = Came.Enters ms (record { silent = silent; body = body; locals = locals; todo = todo })
came_from step (Body.Ready u) = Came.Comes (place_of u)
came_from step body = Came.Comes (place_of (Unwound.Runs [] [] []))

by_move : (locals : List Local) (did : Did) → came_from (after_move 0 locals stands did).step (after_move 0 locals stands did).body ≡ came_by locals did
unfolding came_from
by_move locals (Did.GoesOn how after todo) = refl
by_move locals (Did.Enters ms silent body todo) = refl
by_move locals (Did.Asks request x todo) = refl

by_made : (t : Coded) (made : Made) (s : Stack) → came_from (made_of t 0 stands made s).step (made_of t 0 stands made s).body ≡ came_of_made t made s
unfolding came_from
by_made t (Made.Asks request x) s = refl
by_made t (Made.Enters ms silent b) s = refl
by_made t (Made.Further at) s = refl

pub comes_of_move : (t : Coded) (locals : List Local) (did : Did) (made : Made) (s : Stack) →
    ((moves : ℕ) (go : Unwound → Stepped) → after_move moves locals go did ≡ made_of t moves go made s) → came_of_made t made s ≡ came_by locals did
comes_of_move t locals did made s e =
    sym (by_made t made s) ∙ ap (λ (x : Stepped). came_from x.step x.body) (sym (e 0 stands)) ∙ by_move locals did

-- what comes of a move by which the body goes on so by itself
pub comes_where : (locals : List Local) (did : Did) (u : Unwound) → ((moves : ℕ) (go : Unwound → Stepped) → after_move moves locals go did ≡ go u) →
    Came.Comes (place_of u) ≡ came_by locals did
unfolding came_from
comes_where locals did u e = ap (λ (x : Stepped). came_from x.step x.body) (sym (e 0 stands)) ∙ by_move locals did

-- a body by its pile, of which this local takes the answer that it waits for
abbrev pub frame_with : Coded → Stack → Option LocalSlot → Frame
frame_with t s x = record { locals = locals_of t.names s.locals; todo = todo_of t s.todo; gives = name_if t x }

-- what comes of its move, where these are the blocks that it shares
pub comes_as : (t u : Coded) (f : Frame) (old : Stack) (x : Option LocalSlot) (near : List Local → Around) (made : Made) (s : Stack) → u ≡ t → frame_with t old x ≡ f →
    HasMoved u near old made s → came_of_move near f ≡ came_of_made t made s
comes_as t u f old x near made s shared view e =
    ap (λ (g : Frame). came_of_move near g) (sym view)
    ∙ ap (λ (w : Coded). came_of_move near (frame_with w old x)) (sym shared)
    ∙ sym (comes_of_move u (locals_of u.names old.locals) (body_move (todo_of u old.todo) (near (locals_of u.names old.locals))) made s e)
    ∙ ap (λ (w : Coded). came_of_made w made s) shared

-- an answer comes to a body by its pile
pub answered_as : (t u : Coded) (f : Frame) (locals : List Bound) (todo : List Entry) (gives : Option LocalSlot) (answer : Outcome) (at : Left) (s : Stack) → u ≡ t →
    record { locals = locals_of t.names locals; todo = todo_of t todo; gives = name_if t gives } ≡ f →
    unwind (todo_of u todo) [] (leaving_of answer) (given (record { locals = locals_of u.names locals; todo = todo_of u todo; gives = name_if u gives }) answer) ≡ goes_from u at s →
    goes_from t at s ≡ unwind f.todo [] (leaving_of answer) (given f answer)
answered_as t u f locals todo gives answer at s shared view goes =
    ap (λ (w : Coded). goes_from w at s) (sym shared) ∙ sym goes
    ∙ ap (λ (w : Coded). unwind (todo_of w todo) [] (leaving_of answer) (given (record { locals = locals_of w.names locals; todo = todo_of w todo; gives = name_if w gives }) answer)) shared
    ∙ ap (λ (g : Frame). unwind g.todo [] (leaving_of answer) (given g answer)) view

-- a body by its pile goes on by itself
pub goes_as : (t u : Coded) (f : Frame) (old : Stack) (x : Option LocalSlot) (at : Left) (s : Stack) → u ≡ t → frame_with t old x ≡ f → old.left ≡ [] →
    unwind (todo_of u old.todo) old.left Leaving.Normally (locals_of u.names old.locals) ≡ goes_from u at s → goes_from t at s ≡ unwind f.todo [] Leaving.Normally f.locals
goes_as t u f old x at s shared view told goes =
    ap (λ (w : Coded). goes_from w at s) (sym shared) ∙ sym goes
    ∙ ap (λ (left : List ℕ). unwind (todo_of u old.todo) left Leaving.Normally (locals_of u.names old.locals)) told
    ∙ ap (λ (w : Coded). unwind (todo_of w old.todo) [] Leaving.Normally (locals_of w.names old.locals)) shared
    ∙ ap (λ (g : Frame). unwind g.todo [] Leaving.Normally g.locals) view

-- so each call of it has few arguments where it is shared
pub few_shared : (t u : Coded) (f : Frame) (s : Stack) (x : Option LocalSlot) → u ≡ t → frame_with t s x ≡ f → HasFewToDo f.todo → HasFewToDo (todo_of u s.todo)
few_shared t u f s x shared view few =
    subst (λ (w : Coded). HasFewToDo (todo_of w s.todo)) (sym shared) (subst (λ (g : Frame). HasFewToDo g.todo) (sym view) few)

-- a body by its pile enters a timeout block
pub entered_as : (t u : Coded) (silent : Bool) (b number : ℕ) (old : Stack) (at : Left) (s : Stack) → u ≡ t →
    unwind (Todo.Statements (block_at b u) ∷ Todo.Within number silent ∷ todo_of u old.todo) [] Leaving.Normally (locals_of u.names old.locals) ≡ goes_from u at s →
    goes_from t at s ≡ unwind (Todo.Statements (block_at b t) ∷ Todo.Within number silent ∷ todo_of t old.todo) [] Leaving.Normally (locals_of t.names old.locals)
entered_as t u silent b number old at s shared goes =
    ap (λ (w : Coded). goes_from w at s) (sym shared) ∙ sym goes
    ∙ ap (λ (w : Coded). unwind (Todo.Statements (block_at b w) ∷ Todo.Within number silent ∷ todo_of w old.todo) [] Leaving.Normally (locals_of w.names old.locals)) shared
