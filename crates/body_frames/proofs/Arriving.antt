-- Where a body comes to that stays where it is.
use Rattle.std.proofs.Common.{◌≡◌, refl, subst, sym, ◌∙◌, ℕ, Bool, List, [], ◌∷◌, Option, None}
use Rattle.machine.specs.declared.request.Request.{Request}
use Rattle.machine.specs.declared.state.Frame.{Frame}
use Rattle.machine.specs.declared.state.Leaving.{Leaving}
use Rattle.machine.specs.declared.state.Local.{Local}
use Rattle.machine.specs.declared.state.Todo.{Todo}
use Rattle.machine.specs.Expressions.{Around}
use Rattle.machine.specs.Unwinding.{Unwound, unwind}
use Rattle.body_locals.specs.Locals.{locals_of}
use Rattle.body_names.specs.declared.expression.LocalSlot.{LocalSlot}
use Rattle.body_blocks.specs.Trees.{Coded, block_at}
use Rattle.body_blocks.specs.Few.{HasFew}
use Rattle.body_frames.specs.declared.running.Destination.{Destination}
use Rattle.body_frames.specs.declared.running.Moved.{Moved}
use Rattle.body_frames.specs.declared.stack.Made.{Made}
use Rattle.body_frames.specs.declared.stack.Stack.{Stack}
use Rattle.body_frames.specs.declared.unwind.Unwound.{Unwound as Left}
use Rattle.body_frames.specs.Destinations.{Arrives, HasMovedOn}
use Rattle.body_entries.specs.Entries.{todo_of}
use Rattle.body_entries.specs.Few.{HasFewToDo}
use Rattle.body_frames.specs.Few.{HasFewBody, HasFewUnwound}
use Rattle.body_frames.specs.Places.{place_of}
use Rattle.body_frames.specs.Runs.{HasMoved, came_of_move}
use Rattle.body_frames.specs.Standings.{body_after, frame_of, goes_from}
use Rattle.body_frames.specs.Steady.{HasMove, IsSteady}
use Rattle.body_frames.specs.Unwinding.{unwound_of}
use Rattle.body_frames.proofs.Coming.{comes_as, entered_as, few_shared, frame_with}
use Rattle.body_frames.proofs.Keeping.{move_stays_few}

-- each body that goes on so arrives there
abbrev pub Lands : Left → List ℕ → Destination → Type 0
Lands at left to = (b : Frame) → b.gives ≡ None → HasMove (unwound_of at left b.locals b.todo) → HasFewUnwound (unwound_of at left b.locals b.todo) →
    Arrives (place_of (unwound_of at left b.locals b.todo)) to b

-- so does the body by its pile, where these are the blocks that it shares
pub arrives_as : (t u : Coded) (at : Left) (s : Stack) (left : List ℕ) (went : Unwound) (to : Destination) → u ≡ t → left ≡ s.left → goes_from t at s ≡ went →
    HasMove (goes_from u at s) → HasFewUnwound (goes_from u at s) → Lands at left to → Arrives (place_of went) to (frame_of t s)
arrives_as t u at s left went to shared told goes moves few lands =
    let lands_so : Lands at s.left to = subst (λ (ns : List ℕ). Lands at ns to) told lands in
    subst (λ (w : Unwound). Arrives (place_of w) to (frame_of t s)) goes
    (lands_so (frame_of t s) refl (subst (λ (w : Coded). HasMove (goes_from w at s)) shared moves) (subst (λ (w : Coded). HasFewUnwound (goes_from w at s)) shared few))

-- ---- what came of a move

moved_few : (t u : Coded) (f : Frame) (old : Stack) (x : Option LocalSlot) (near : List Local → Around) (made : Made) (s : Stack) → u ≡ t → frame_with t old x ≡ f → HasFewToDo f.todo →
    HasMoved u near old made s → HasFewBody (body_after u made s)
moved_few t u f old x near made s shared view few h =
    move_stays_few u (todo_of u old.todo) (near (locals_of u.names old.locals)) (locals_of u.names old.locals) made s (few_shared t u f old x shared view few) h

-- the body asks
pub asked_as : (t u : Coded) (f : Frame) (old : Stack) (x : Option LocalSlot) (near : List Local → Around) (n : ℕ) (request : Request) (gives : Option LocalSlot) (s : Stack) → u ≡ t →
    frame_with t old x ≡ f → HasFewToDo f.todo → HasMoved u near old (Made.Asks request gives) s → HasMovedOn n (came_of_move near f) (Moved.Asks request) (frame_with t s gives)
asked_as t u f old x near n request gives s shared view few h =
    let made = Made.Asks request gives in (
      comes_as t u f old x near made s shared view h,
      subst (λ (w : Coded). HasFewToDo (todo_of w s.todo)) shared (moved_few t u f old x near made s shared view few h),
    )

-- it goes on by itself
pub came_as : (t u : Coded) (f : Frame) (old : Stack) (x : Option LocalSlot) (near : List Local → Around) (n : ℕ) (at : Left) (s : Stack) (left : List ℕ) (to : Destination) → u ≡ t →
    frame_with t old x ≡ f → HasFewToDo f.todo → HasMoved u near old (Made.Further at) s → IsSteady (body_after u (Made.Further at) s) → left ≡ s.left → Lands at left to →
    HasMovedOn n (came_of_move near f) (Moved.Comes to) (frame_of t s)
came_as t u f old x near n at s left to shared view few h steady told lands =
    let made = Made.Further at in (
      place_of (goes_from t at s),
      comes_as t u f old x near made s shared view h,
      arrives_as t u at s left (goes_from t at s) to shared told refl steady (moved_few t u f old x near made s shared view few h) lands,
    )

-- it enters a timeout block: each call of that has few arguments, and so has each call of what is to do after it
pub entering_few : (t u v : Coded) (f : Frame) (old : Stack) (x : Option LocalSlot) (near : List Local → Around) (ms : Option ℕ) (silent : Bool) (b : ℕ) (s : Stack) → u ≡ t → v ≡ t →
    frame_with t old x ≡ f → HasFewToDo f.todo → HasMoved u near old (Made.Enters ms silent b) s → HasFew (block_at b v) × HasFewToDo (todo_of v s.todo)
entering_few t u v f old x near ms silent b s shared again view few h =
    subst (λ (w : Coded). HasFew (block_at b w) × HasFewToDo (todo_of w s.todo)) (shared ∙ sym again)
    (moved_few t u f old x near (Made.Enters ms silent b) s shared view few h)

-- and goes on inside
pub entered_on : (t u v : Coded) (f : Frame) (old : Stack) (x : Option LocalSlot) (near : List Local → Around) (n : ℕ) (ms : Option ℕ) (silent : Bool) (b : ℕ) (s : Stack)
    (at : Left) (new : Stack) (left : List ℕ) (to : Destination) → u ≡ t → v ≡ t → frame_with t old x ≡ f → HasMoved u near old (Made.Enters ms silent b) s →
    unwind (Todo.Statements (block_at b v) ∷ Todo.Within n silent ∷ todo_of v s.todo) [] Leaving.Normally (locals_of v.names s.locals) ≡ goes_from v at new →
    HasMove (goes_from v at new) → HasFewUnwound (goes_from v at new) → left ≡ new.left → Lands at left to →
    HasMovedOn n (came_of_move near f) (Moved.Enters ms to) (frame_of t new)
entered_on t u v f old x near n ms silent b s at new left to shared again view h goes moves few told lands = (
  record { silent = silent; body = block_at b t; locals = locals_of t.names s.locals; todo = todo_of t s.todo },
  comes_as t u f old x near (Made.Enters ms silent b) s shared view h,
  arrives_as t v at new left (unwind (Todo.Statements (block_at b t) ∷ Todo.Within n silent ∷ todo_of t s.todo) [] Leaving.Normally (locals_of t.names s.locals)) to again told
      (entered_as t v silent b n s at new again goes) moves few lands,
)
