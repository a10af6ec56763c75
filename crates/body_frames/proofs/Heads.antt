-- The move at the head, by the first entry of the pile.
use Rattle.std.proofs.Common.{◌≡◌, refl, ap, sym, ◌∙◌, ℕ, suc, ◌+◌, ℤ, Bool, List, ◌∷◌, Some, None, drop, arith}
use Rattle.gv_values.specs.declared.value.Value.{Value}
use Rattle.machine.specs.declared.request.Request.{Request}
use Rattle.machine.specs.declared.state.Local.{Local}
use Rattle.machine.specs.declared.state.Todo.{Todo}
use Rattle.machine.specs.Bodies.{Stepped, after_move}
use Rattle.machine.specs.BodyMoves.{Did, action_move, body_move}
use Rattle.machine.specs.Expressions.{Around}
use Rattle.machine.specs.Unwinding.{Unwound}
use Rattle.body_names.specs.declared.expression.FlatExpression.{FlatExpression}
use Rattle.body_locals.specs.declared.locals.Bound.{Bound}
use Rattle.body_locals.specs.Locals.{locals_of}
use Rattle.body_blocks.specs.Trees.{Coded, IsAhead}
use Rattle.body_blocks.specs.declared.statement.FlatStatement.{FlatStatement}
use Rattle.body_primitives.specs.Primitives.{Means}
use Rattle.body_entries.specs.declared.entry.Entry.{Entry}
use Rattle.body_frames.specs.declared.quick.Quick.{Quick}
use Rattle.body_frames.specs.declared.stack.Made.{Made}
use Rattle.body_frames.specs.declared.stack.Stack.{Stack}
use Rattle.body_entries.specs.Entries.{form_of, rest, todo_of}
use Rattle.body_frames.specs.Quick.{Prints, request_of}
use Rattle.body_frames.specs.Runs.{HasMoved}
use Rattle.body_frames.specs.Standings.{made_of}
use Rattle.body_frames.proofs.Readings.{move_there}

-- the statement at this place was passed, and its move made
pub statement_moved : (t : Coded) (b p : ℕ) (s : FlatStatement) (near : List Local → Around) (old : Stack) (passed : List Entry) (made : Made) (new : Stack) →
    old.todo ≡ Entry.Rest b p ∷ drop 1 old.todo → IsAhead t b p (Some s) → passed ≡ Entry.Rest b (p + 1) ∷ drop 1 old.todo →
    ((moves : ℕ) (go : Unwound → Stepped) → after_move moves (locals_of t.names old.locals) go (action_move (form_of t s.action) (near (locals_of t.names old.locals)) (todo_of t passed)) ≡ made_of t moves go made new) →
    HasMoved t near old made new
statement_moved t b p s near old passed made new e here n h = λ moves go.
    let a = near (locals_of t.names old.locals) in
    let next : suc p ≡ p + 1 = omega arith in
    ap (λ es. after_move moves (locals_of t.names old.locals) go (body_move (todo_of t es) a)) e
    ∙ ap (λ (did : Did). after_move moves (locals_of t.names old.locals) go did) (move_there t b p s (todo_of t (drop 1 old.todo)) a here)
    ∙ ap (λ (q : ℕ). after_move moves (locals_of t.names old.locals) go (action_move (form_of t s.action) a (Todo.Statements (rest t b q) ∷ todo_of t (drop 1 old.todo)))) next
    ∙ ap (λ (es : List Entry). after_move moves (locals_of t.names old.locals) go (action_move (form_of t s.action) a (todo_of t es))) (sym n)
    ∙ h moves go

-- the statement at this place was passed, which asks what is answered at once
pub quickly_asked : (t : Coded) (b p : ℕ) (s : FlatStatement) (near : List Local → Around) (old : Stack) (q : Quick) (new : Stack) →
    old.todo ≡ Entry.Rest b p ∷ drop 1 old.todo → IsAhead t b p (Some s) → new.todo ≡ Entry.Rest b (p + 1) ∷ drop 1 old.todo → new.locals ≡ old.locals →
    ((todo : List Todo) → action_move (form_of t s.action) (near (locals_of t.names old.locals)) todo ≡ Did.Asks (request_of q) None todo) →
    HasMoved t near old (Made.Asks (request_of q) None) new
quickly_asked t b p s near old q new e here n l asks =
    statement_moved t b p s near old new.todo (Made.Asks (request_of q) None) new e here n (λ moves go.
    ap (λ (did : Did). after_move moves (locals_of t.names old.locals) go did) (asks (todo_of t new.todo))
    ∙ ap (λ (ls : List Bound). made_of t moves go (Made.Asks (request_of q) None) (record { locals = ls; todo = new.todo; left = new.left })) (sym l))

-- ---- what is printed

pub prints_integer : (z n : ℤ) (e : FlatExpression) (locals : List Bound) → z ≡ n → Means e locals (Value.Int n) → Prints (Quick.PrintInteger z) e locals
prints_integer z n e locals same h = (Value.Int n, ap (λ (x : ℤ). Request.Print (Value.Int x)) same, h)

pub prints_truth : (b : Bool) (e : FlatExpression) (locals : List Bound) → Means e locals (Value.Bool b) → Prints (Quick.PrintTruth b) e locals
prints_truth b e locals h = (Value.Bool b, refl, h)
