-- Moves of a body one after another.
use Rattle.std.proofs.Common.{◌≡◌, refl, ap, subst, sym, ◌∙◌, ℕ, suc, ◌+◌, Bool, true, false, List, [], ◌∷◌, Option, None, Some, Result, IfOk, arith}
use Rattle.scenario_tree.specs.declared.tree.Scenario.{Scenario}
use Rattle.machine.specs.declared.state.Frame.{Frame}
use Rattle.machine.specs.declared.state.Leaving.{Leaving}
use Rattle.machine.specs.declared.state.Local.{Local}
use Rattle.machine.specs.declared.state.Todo.{Todo}
use Rattle.machine.specs.Bodies.{around}
use Rattle.machine.specs.BodyMoves.{body_move}
use Rattle.machine.specs.Expressions.{Around, Look}
use Rattle.machine.specs.Unwinding.{unwind}
use Rattle.gv_values.specs.declared.name.Name.{Name}
use Rattle.body_names.specs.declared.expression.LocalSlot.{LocalSlot}
use Rattle.body_locals.specs.Locals.{locals_of}
use Rattle.body_names.specs.Naming.{IsNaming}
use Rattle.body_blocks.specs.Trees.{Coded, name_if}
use Rattle.body_frames.specs.declared.quick.Quick.{Quick}
use Rattle.body_frames.specs.declared.runs.Halt.{Halt}
use Rattle.body_frames.specs.declared.runs.Ran.{Ran}
use Rattle.body_frames.specs.declared.stack.Made.{Made}
use Rattle.body_frames.specs.declared.stack.Stack.{Stack}
use Rattle.body_frames.specs.declared.unwind.Unwound.{Unwound as Left}
use Rattle.body_frames.specs.AtMove.{IsAtMove}
use Rattle.body_entries.specs.Entries.{todo_of}
use Rattle.body_entries.specs.Few.{HasFewToDo}
use Rattle.body_frames.specs.Places.{Came, Place, place_of}
use Rattle.body_frames.specs.PrimitiveMoves.{HasMade, RunsAt}
use Rattle.body_frames.specs.Quick.{request_of}
use Rattle.body_frames.specs.Runs.{HasAsked, HasCome, HasMoved, HasRun, HasStayed, MovesOn, came_of_move, halt_of}
use Rattle.body_frames.specs.Standings.{body_after, came_of_made, frame_of}
use Rattle.body_frames.specs.Steady.{IsSteady}
use Rattle.body_frames.proofs.Coming.{comes_of_move, comes_where, frame_with}
use Rattle.body_frames.proofs.Keeping.{move_stays_few}
use Rattle.body_frames.proofs.PrimitiveMoves.{primitive_made}

-- whatever comes of the one body after some moves comes of the other after so many more
abbrev pub LeadsTo : (List Local → Around) → ℕ → Frame → Frame → Type 0
LeadsTo around n a b = (k : ℕ) (came : Came) → MovesOn around k b came → MovesOn around (k + n) a came

-- ---- one move more

pub moves_once : (t : Coded) (around : List Local → Around) (old : Stack) (made : Made) (new : Stack) → HasMoved t around old made new →
    MovesOn around 0 (frame_of t old) (came_of_made t made new)
moves_once t around old made new h = comes_of_move t (locals_of t.names old.locals) (body_move (todo_of t old.todo) (around (locals_of t.names old.locals))) made new h

pub leads_on : (t : Coded) (around : List Local → Around) (n : ℕ) (a : Frame) (old : Stack) (made : Made) (new : Stack) →
    LeadsTo around n a (frame_of t old) → HasMoved t around old made new → made ≡ Made.Further Left.Runs → new.left ≡ [] →
    LeadsTo around (n + 1) a (frame_of t new)
leads_on t around n a old made new leads h stays told = λ k came rest.
    let comes : Came.Comes (Place.AtMove [] (frame_of t new)) ≡ came_of_move around (frame_of t old) =
    ap (λ left. Came.Comes (Place.AtMove left (frame_of t new))) (sym told)
    ∙ ap (λ (m : Made). came_of_made t m new) (sym stays)
    ∙ moves_once t around old made new h in
    let same : suc k + n ≡ k + (n + 1) = omega arith in
    subst (λ m. MovesOn around m a came) same (leads (suc k) came (frame_of t new, comes, rest))

pub leads_last : (t : Coded) (around : List Local → Around) (n : ℕ) (a : Frame) (old : Stack) (made : Made) (new : Stack) →
    LeadsTo around n a (frame_of t old) → HasMoved t around old made new → MovesOn around n a (came_of_made t made new)
leads_last t around n a old made new leads h =
    let same : 0 + n ≡ n = omega arith in
    subst (λ m. MovesOn around m a (came_of_made t made new)) same (leads 0 (came_of_made t made new) (moves_once t around old made new h))

-- ---- one move

pub come_by : (t : Coded) (around : List Local → Around) (old : Stack) (made : Made) (new : Stack) → HasFewToDo (todo_of t old.todo) →
    IsSteady (body_after t made new) → HasMoved t around old made new → HasCome t around old made new
come_by t around old made new few steady h = (steady, move_stays_few t (todo_of t old.todo) (around (locals_of t.names old.locals)) (locals_of t.names old.locals) made new few h, h)

-- nothing was done
pub unmade : (t : Coded) (old new : Stack) (made : Bool) → HasMade made t old new → made ≡ false → new ≡ old
unmade t old new false h not = h
unmade t old new true h not = cc

-- where nothing was done before
pub come_by_any : (t : Coded) (around : List Local → Around) (old mid : Stack) (tried : Bool) (made : Made) (new : Stack) → tried ≡ false →
    HasMade tried t old mid → HasFewToDo (todo_of t old.todo) → IsSteady (body_after t made new) → HasMoved t around mid made new → HasCome t around old made new
come_by_any t around old mid tried made new not h few steady moved =
    come_by t around old made new few steady (subst (λ (s : Stack). HasMoved t around s made new) (unmade t old mid tried h not) moved)

-- each call stays with few arguments
pub made_few : (t : Coded) (old new : Stack) (made : Bool) → HasMade made t old new → HasFewToDo (todo_of t old.todo) → HasFewToDo (todo_of t new.todo)
made_few t old new false h few = subst (λ (s : Stack). HasFewToDo (todo_of t s.todo)) (sym h) few
made_few t old new true h few = h.2 few

pub stayed_at_once : (t : Coded) (s : Scenario) (look : Look) (old : Stack) (made : Bool) (new : Stack) → IsNaming t.names → HasFewToDo (todo_of t old.todo) → old.left ≡ [] →
    made ≡ true → HasMade made t old new → RunsAt (todo_of t new.todo) → HasStayed t (around s look) old new
stayed_at_once t s look old false new is few told h made runs = cc
stayed_at_once t s look old true new is few told h made runs =
    (made.0 ∙ told, made.2 few, primitive_made true t old new new Left.Runs s look is refl made told (runs new.left (locals_of t.names new.locals)))

-- a body that stays leads on
pub leads_at_once : (t : Coded) (around : List Local → Around) (n : ℕ) (a : Frame) (old new : Stack) →
    LeadsTo around n a (frame_of t old) → HasStayed t around old new → LeadsTo around (n + 1) a (frame_of t new)
leads_at_once t around n a old new leads h = leads_on t around n a old (Made.Further Left.Runs) new leads h.2 refl h.0

-- ---- what stopped it

-- so many moves were made and one more, after which the body stays
pub ran_on : (t : Coded) (around : List Local → Around) (n : ℕ) (a : Frame) (old new : Stack) →
    LeadsTo around n a (frame_of t old) → HasStayed t around old new → HasRun around (n + 1) Halt.Ahead a (frame_of t new)
ran_on t around n a old new leads h =
    let next : suc n ≡ n + 1 = omega arith in
    subst (λ m. HasRun around m Halt.Ahead a (frame_of t new)) next
    (subst (λ left. MovesOn around n a (Came.Comes (Place.AtMove left (frame_of t new)))) h.0 (leads_last t around n a old (Made.Further Left.Runs) new leads h.2))

-- the body leaves a block after a move of integers and truth values
pub ran_out : (t : Coded) (s : Scenario) (look : Look) (n : ℕ) (a : Frame) (old new : Stack) (made : Bool) → IsNaming t.names → made ≡ true → HasMade made t old new →
    LeadsTo (around s look) n a (frame_of t old) → HasRun (around s look) n Halt.Leaves a (frame_of t new)
ran_out t s look n a old new false is so h leads = cc
ran_out t s look n a old new true is so h leads =
    let locals = locals_of t.names old.locals in
    let left = unwind (todo_of t new.todo) [] Leaving.Normally (locals_of t.names new.locals) in
    let same : 0 + n ≡ n = omega arith in
    subst (λ m. MovesOn (around s look) m a (Came.Comes (place_of left))) same
    (leads 0 (Came.Comes (place_of left)) (comes_where locals (body_move (todo_of t old.todo) (around s look locals)) left (λ moves go. h.1 is moves go s look)))

-- the body asked what is answered at once, or no move was made
pub ran_asked : (t : Coded) (near : List Local → Around) (n : ℕ) (a : Frame) (old mid new : Stack) (made : Bool) (asked : Option Quick) (halt : Halt) →
    made ≡ false → HasMade made t old mid → HasAsked asked t near mid new → halt ≡ halt_of asked → HasRun near n Halt.Ahead a (frame_of t old) → LeadsTo near n a (frame_of t old) →
    HasRun near n halt a (frame_of t new)
ran_asked t near n a old mid new made None halt not m h is ran leads =
    subst (λ (x : Halt). HasRun near n x a (frame_of t new)) (sym is)
    (subst (λ (s : Stack). HasRun near n Halt.Ahead a (frame_of t s)) (sym (h ∙ unmade t old mid made m not)) ran)
ran_asked t near n a old mid new made (Some q) halt not m h is ran leads =
    let request = Made.Asks (request_of q) None in
    let moved : HasMoved t near old request new = subst (λ (s : Stack). HasMoved t near s request new) (unmade t old mid made m not) h in
    subst (λ (x : Halt). HasRun near n x a (frame_of t new)) (sym is) (leads_last t near n a old request new leads moved)

-- where none was made, it is at its next move still
pub asked_runs : (t : Coded) (near : List Local → Around) (old mid new : Stack) (made : Bool) (asked : Option Quick) (halt : Halt) →
    made ≡ false → HasMade made t old mid → HasAsked asked t near mid new → halt ≡ halt_of asked → RunsAt (todo_of t old.todo) → halt ≡ Halt.Ahead → RunsAt (todo_of t new.todo)
asked_runs t near old mid new made None halt not m h is runs ahead = subst (λ (s : Stack). RunsAt (todo_of t s.todo)) (sym (h ∙ unmade t old mid made m not)) runs
asked_runs t near old mid new made (Some q) halt not m h is runs ahead = cc

pub asked_few : (t : Coded) (near : List Local → Around) (old mid new : Stack) (made : Bool) (asked : Option Quick) → HasMade made t old mid → HasAsked asked t near mid new →
    HasFewToDo (todo_of t old.todo) → HasFewToDo (todo_of t new.todo)
asked_few t near old mid new made None m h few = subst (λ (s : Stack). HasFewToDo (todo_of t s.todo)) (sym h) (made_few t old mid made m few)
asked_few t near old mid new made (Some q) m h few =
    move_stays_few t (todo_of t mid.todo) (near (locals_of t.names mid.locals)) (locals_of t.names mid.locals) (Made.Asks (request_of q) None) new (made_few t old mid made m few) h

-- a hub of which nothing may be known
pub no_look : Look
no_look = record { current = 0; outcome = λ x. None; is_set = λ n. false; size = λ n. 0; unfinished = λ n. 0 }

-- ---- the body by its view

-- a statement that is at its move runs there
pub runs_at_move : (todo : List Todo) → IsAtMove todo → RunsAt todo
runs_at_move (Todo.Statements (s ∷ ss) ∷ todo) h = λ left locals. refl
runs_at_move (Todo.Again e body ∷ todo) h = λ left locals. refl
runs_at_move [] h = absurd h
runs_at_move (Todo.Statements [] ∷ todo) h = absurd h
runs_at_move (Todo.Guard excepts finally ∷ todo) h = absurd h
runs_at_move (Todo.Afterwards how ∷ todo) h = absurd h
runs_at_move (Todo.Within n silent ∷ todo) h = absurd h

-- the blocks are those that it shares
pub runs_shared : (t u : Coded) (f : Frame) (s : Stack) (x : Option LocalSlot) → u ≡ t → frame_with t s x ≡ f → RunsAt (todo_of u s.todo) → RunsAt f.todo
runs_shared t u f s x shared view runs = subst (λ (g : Frame). RunsAt g.todo) view (subst (λ (w : Coded). RunsAt (todo_of w s.todo)) shared runs)

-- nobody takes an answer
pub none_takes : (t : Coded) (f : Frame) (s : Stack) (x : Option LocalSlot) → frame_with t s x ≡ f → f.gives ≡ None → name_if t x ≡ None
none_takes t f s x view unheard = ap (λ (g : Frame). g.gives) view ∙ unheard

pub ran_shared : {E : Type 0} (t u : Coded) (near : List Local → Around) (r : Result Ran E) (f : Frame) (old new : Stack) (x : Option LocalSlot) → u ≡ t → frame_with t old x ≡ f →
    name_if t x ≡ None → IfOk r (λ ran. HasRun near ran.moves ran.halt (frame_of u old) (frame_of u new)) → IfOk r (λ ran. HasRun near ran.moves ran.halt f (frame_with t new x))
ran_shared t u near r f old new x shared view unheard h =
    let with : Option Name → Stack → Frame = λ name s. record { locals = locals_of t.names s.locals; todo = todo_of t s.todo; gives = name } in
    subst (λ (g : Frame). IfOk r (λ ran. HasRun near ran.moves ran.halt g (frame_with t new x))) view
    (subst (λ (name : Option Name). IfOk r (λ ran. HasRun near ran.moves ran.halt (with name old) (with name new))) (sym unheard)
    (subst (λ (w : Coded). IfOk r (λ ran. HasRun near ran.moves ran.halt (frame_of w old) (frame_of w new))) shared h))
