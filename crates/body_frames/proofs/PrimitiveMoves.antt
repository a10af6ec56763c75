-- Moves of integers and truth values.
use Rattle.std.proofs.Common.{◌≡◌, refl, ap, sym, subst, ◌∙◌, ℕ, suc, ◌+◌, Bool, true, false, List, [], ◌∷◌, Option, Some, None, drop, if◌then◌else◌, arith}
use Rattle.std.specs.Prelude.{IsTrue, unwrap_or}
use Rattle.gv_values.specs.declared.value.Outcome.{Outcome}
use Rattle.gv_values.specs.declared.value.Value.{Value}
use Rattle.scenario_tree.specs.declared.tree.Action.TheOpen.{Action-F}
use Rattle.scenario_tree.specs.declared.tree.Scenario.{Scenario}
use Rattle.machine.specs.declared.state.Leaving.{Leaving}
use Rattle.machine.specs.declared.state.Local.{Local}
use Rattle.machine.specs.declared.state.Todo.{Todo}
use Rattle.machine.specs.Bodies.{Stepped, after_move, around}
use Rattle.machine.specs.BodyMoves.{Did, action_move, body_move, on_value, tested}
use Rattle.machine.specs.Expressions.{Look, bind as bind_name, meaning}
use Rattle.machine.specs.Unwinding.{Unwound, unwind}
use Rattle.body_names.specs.declared.command.FlatCommand.{FlatCommand}
use Rattle.body_names.specs.declared.expression.FlatExpression.{FlatExpression}
use Rattle.body_names.specs.declared.expression.LocalSlot.{LocalSlot}
use Rattle.body_locals.specs.declared.locals.Bound.{Bound}
use Rattle.body_names.specs.Expressions.{expression_of}
use Rattle.body_locals.specs.Locals.{bind, locals_of}
use Rattle.body_names.specs.Naming.{IsNaming, name_of}
use Rattle.body_locals.proofs.Places.{bind_by_name}
use Rattle.body_blocks.specs.Trees.{Coded, IsAhead, block_at}
use Rattle.body_blocks.specs.declared.statement.FlatAction.{FlatAction}
use Rattle.body_blocks.specs.declared.statement.FlatStatement.{FlatStatement}
use Rattle.body_primitives.specs.Primitives.{IsBound, Means}
use Rattle.body_entries.specs.declared.entry.Entry.{Entry}
use Rattle.body_frames.specs.declared.stack.Stack.{Stack}
use Rattle.body_frames.specs.declared.unwind.Unwound.{Unwound as Left}
use Rattle.body_entries.specs.Entries.{begins, form_of, optional_block, rest, todo_of}
use Rattle.body_entries.specs.Few.{HasFewToDo}
use Rattle.body_frames.specs.PrimitiveMoves.{GoesOn, HasActed, HasMade, IsPassed, RunsAt}
use Rattle.body_frames.specs.Standings.{goes_from}
use Rattle.body_frames.proofs.Leavings.{rest_ends, rest_runs}
use Rattle.body_frames.proofs.Readings.{few_behind, few_there, move_there}

-- ---- what is first to do

pub passed_on : (t : Coded) (b p : ℕ) (old dropped new : List Entry) → dropped ≡ drop 1 old → new ≡ Entry.Rest b p ∷ dropped →
    IsPassed t (Entry.Rest b p ∷ drop 1 old) new
passed_on t b p old dropped new d e =
    let same : Entry.Rest b p ∷ drop 1 old ≡ new = ap (λ es. Entry.Rest b p ∷ es) (sym d) ∙ sym e in (
      λ left locals. ap (λ es. unwind (todo_of t es) left Leaving.Normally locals) same,
      λ few. subst (λ (es : List Entry). HasFewToDo (todo_of t es)) same few,
    )

pub passed_out : (t : Coded) (b p : ℕ) (old new : List Entry) → new ≡ drop 1 old → begins (rest t b p) ≡ false →
    IsPassed t (Entry.Rest b p ∷ drop 1 old) new
passed_out t b p old new d h = (
  λ left locals. rest_ends (rest t b p) (todo_of t (drop 1 old)) left locals h ∙ ap (λ es. unwind (todo_of t es) left Leaving.Normally locals) (sym d),
  λ few. subst (λ (es : List Entry). HasFewToDo (todo_of t es)) (sym d) few.1,
)

pub rest_is_move : (t : Coded) (todo : List Entry) (b p : ℕ) → todo ≡ Entry.Rest b p ∷ drop 1 todo → IsTrue (begins (rest t b p)) →
    RunsAt (todo_of t todo)
rest_is_move t todo b p e h = subst (λ es. RunsAt (todo_of t es)) (sym e) (λ left locals. rest_runs (rest t b p) (todo_of t (drop 1 todo)) left locals h)

pub again_is_move : (t : Coded) (todo : List Entry) (test : _) (b : ℕ) → todo ≡ Entry.Again test b ∷ drop 1 todo → RunsAt (todo_of t todo)
again_is_move t todo test b e = subst (λ es. RunsAt (todo_of t es)) (sym e) (λ left locals. refl)

-- ---- the moves

-- a truth value by the arm in which it stands
pub means_so : (e : FlatExpression) (locals : List Bound) (b v : Bool) → b ≡ v → Means e locals (Value.Bool b) → Means e locals (Value.Bool v)
means_so e locals b v h m = subst (λ (w : Bool). Means e locals (Value.Bool w)) h m

-- what a test of such a value comes to
tested_so : (t : Coded) (e : FlatExpression) (b : Bool) (old new : Stack) (go_on : Bool → List Todo) (entries : List Entry) → Means e old.locals (Value.Bool b) →
    new.locals ≡ old.locals → new.todo ≡ entries →
    ((left : List ℕ) (locals : List Local) → unwind (go_on b) left Leaving.Normally locals ≡ unwind (todo_of t entries) left Leaving.Normally locals) →
    GoesOn t (λ a. tested (meaning (expression_of t.names e) a) a.locals go_on) old new
tested_so t e b old new go_on entries m l n same = λ is moves go s look.
    let locals = locals_of t.names old.locals in
    ap (λ (o : Outcome). after_move moves locals go (tested o locals go_on)) (sym (m t.names is s look))
    ∙ ap go
    (same [] locals ∙ ap (λ es. unwind (todo_of t es) [] Leaving.Normally locals) (sym n)
    ∙ ap (λ (ls : List Bound). unwind (todo_of t new.todo) [] Leaving.Normally (locals_of t.names ls)) (sym l))

pub while_in : (t : Coded) (test : _) (b : ℕ) (old new : Stack) → old.todo ≡ Entry.Again test b ∷ drop 1 old.todo → Means test.value old.locals (Value.Bool true) →
    new.left ≡ old.left → new.locals ≡ old.locals → new.todo ≡ Entry.Rest b 0 ∷ old.todo → HasMade true t old new
while_in t test b old new e m f l n = (
  f,
  subst (λ es. GoesOn t (body_move (todo_of t es)) old new) (sym e)
      (tested_so t test.value true old new
      (λ on. if on then (Todo.Statements (block_at b t) ∷ Todo.Again (expression_of t.names test.value) (block_at b t) ∷ todo_of t (drop 1 old.todo)) else todo_of t (drop 1 old.todo))
      (Entry.Rest b 0 ∷ Entry.Again test b ∷ drop 1 old.todo) m l (n ∙ ap (λ es. Entry.Rest b 0 ∷ es) e) (λ left locals. refl)),
  λ few. subst (λ (es : List Entry). HasFewToDo (todo_of t es)) (sym n) ((subst (λ (es : List Entry). HasFewToDo (todo_of t es)) e few).0, few),
)

pub while_out : (t : Coded) (test : _) (b : ℕ) (old new : Stack) → old.todo ≡ Entry.Again test b ∷ drop 1 old.todo → Means test.value old.locals (Value.Bool false) →
    new.left ≡ old.left → new.locals ≡ old.locals → new.todo ≡ drop 1 old.todo → HasMade true t old new
while_out t test b old new e m f l n = (
  f,
  subst (λ es. GoesOn t (body_move (todo_of t es)) old new) (sym e)
      (tested_so t test.value false old new
      (λ on. if on then (Todo.Statements (block_at b t) ∷ Todo.Again (expression_of t.names test.value) (block_at b t) ∷ todo_of t (drop 1 old.todo)) else todo_of t (drop 1 old.todo))
      (drop 1 old.todo) m l n (λ left locals. refl)),
  λ few. subst (λ (es : List Entry). HasFewToDo (todo_of t es)) (sym n) (subst (λ (es : List Entry). HasFewToDo (todo_of t es)) e few).1,
)

pub let_made : (t : Coded) (slot : LocalSlot) (e : FlatExpression) (v : Value) (after : List Entry) (old new : Stack) → Means e old.locals v →
    new.left ≡ old.left → new.locals ≡ bind slot.number v old.locals → IsPassed t after new.todo → HasActed true t (form_of t (FlatAction.Command (FlatCommand.Let slot e))) after old new
let_made t slot e v after old new m f l p = (
  f,
  λ is moves go s look.
      let x = name_of t.names slot.number in
      let locals = locals_of t.names old.locals in
      ap (λ (o : Outcome). after_move moves locals go (on_value o (λ w. Did.GoesOn Leaving.Normally (bind_name x w locals) (todo_of t after)) locals (todo_of t after)))
      (sym (m t.names is s look))
      ∙ ap go
      (p.0 [] (bind_name x v locals)
      ∙ ap (λ ls. unwind (todo_of t new.todo) [] Leaving.Normally ls) (bind_by_name t.names slot.number v old.locals is ∙ ap (λ (bs : List Bound). locals_of t.names bs) (sym l))),
  λ parts few. p.1 few,
)

pub let_bound : (t : Coded) (slot : LocalSlot) (e : FlatExpression) (bound : Bool) (after : List Entry) (old new : Stack) → bound ≡ true →
    IsBound bound slot.number e old.locals new.locals → new.left ≡ old.left → IsPassed t after new.todo → HasActed true t (form_of t (FlatAction.Command (FlatCommand.Let slot e))) after old new
let_bound t slot e true after old new h b f p = let_made t slot e b.0 after old new b.1 f b.2 p
let_bound t slot e false after old new h b f p = cc

pub if_so : (t : Coded) (e : FlatExpression) (y : ℕ) (n : Option ℕ) (after : List Entry) (old new : Stack) → Means e old.locals (Value.Bool true) →
    new.left ≡ old.left → new.locals ≡ old.locals → new.todo ≡ Entry.Rest y 0 ∷ after → HasActed true t (Action-F.If (expression_of t.names e) (block_at y t) (optional_block t n)) after old new
if_so t e y n after old new m f l k = (
  f,
  tested_so t e true old new (λ b. Todo.Statements (if b then block_at y t else unwrap_or (optional_block t n) []) ∷ todo_of t after)
      (Entry.Rest y 0 ∷ after) m l k (λ left locals. refl),
  λ parts few. subst (λ (es : List Entry). HasFewToDo (todo_of t es)) (sym k) (parts.0, few),
)

pub if_else : (t : Coded) (e : FlatExpression) (y n : ℕ) (after : List Entry) (old new : Stack) → Means e old.locals (Value.Bool false) →
    new.left ≡ old.left → new.locals ≡ old.locals → new.todo ≡ Entry.Rest n 0 ∷ after →
    HasActed true t (Action-F.If (expression_of t.names e) (block_at y t) (optional_block t (Some n))) after old new
if_else t e y n after old new m f l k = (
  f,
  tested_so t e false old new (λ b. Todo.Statements (if b then block_at y t else unwrap_or (optional_block t (Some n)) []) ∷ todo_of t after)
      (Entry.Rest n 0 ∷ after) m l k (λ left locals. refl),
  λ parts few. subst (λ (es : List Entry). HasFewToDo (todo_of t es)) (sym k) (parts.1, few),
)

pub if_not : (t : Coded) (e : FlatExpression) (y : ℕ) (after : List Entry) (old new : Stack) → Means e old.locals (Value.Bool false) →
    new.left ≡ old.left → new.locals ≡ old.locals → IsPassed t after new.todo → HasActed true t (Action-F.If (expression_of t.names e) (block_at y t) (optional_block t None)) after old new
if_not t e y after old new m f l p = (
  f,
  tested_so t e false old new (λ b. Todo.Statements (if b then block_at y t else unwrap_or (optional_block t None) []) ∷ todo_of t after)
      new.todo m l refl (λ left locals. rest_ends [] (todo_of t after) left locals refl ∙ p.0 left locals),
  λ parts few. p.1 few,
)

-- a statement that was acted on is the move at the head
pub statement_made : (made : Bool) (t : Coded) (b p : ℕ) (s : FlatStatement) (old new : Stack) → old.todo ≡ Entry.Rest b p ∷ drop 1 old.todo →
    IsAhead t b p (Some s) → HasActed made t (form_of t s.action) (Entry.Rest b (p + 1) ∷ drop 1 old.todo) old new → HasMade made t old new
statement_made false t b p s old new e here h = h
statement_made true t b p s old new e here h = (
  h.0,
  λ is moves go c look.
      let locals = locals_of t.names old.locals in
      let a = around c look locals in
      let next : suc p ≡ p + 1 = omega arith in
      ap (λ es. after_move moves locals go (body_move (todo_of t es) a)) e
      ∙ ap (λ (did : Did). after_move moves locals go did) (move_there t b p s (todo_of t (drop 1 old.todo)) a here)
      ∙ ap (λ (q : ℕ). after_move moves locals go (action_move (form_of t s.action) a (Todo.Statements (rest t b q) ∷ todo_of t (drop 1 old.todo)))) next
      ∙ h.1 is moves go c look,
  λ few.
      let own = subst (λ (es : List Entry). HasFewToDo (todo_of t es)) e few in
      h.2 (few_there t b p s here own.0) (few_behind t b p s here own.0, own.1),
)

-- the body comes from the move to where it goes on
pub primitive_made : (made : Bool) (t : Coded) (old mid new : Stack) (at : Left) (s : Scenario) (look : Look) → IsNaming t.names → made ≡ true → HasMade made t old mid → old.left ≡ [] →
    unwind (todo_of t mid.todo) mid.left Leaving.Normally (locals_of t.names mid.locals) ≡ goes_from t at new → (moves : ℕ) (go : Unwound → Stepped) →
    after_move moves (locals_of t.names old.locals) go (body_move (todo_of t old.todo) (around s look (locals_of t.names old.locals))) ≡ go (goes_from t at new)
primitive_made true t old mid new at s look is h m told e moves go =
    m.1 is moves go s look ∙ ap go (ap (λ left. unwind (todo_of t mid.todo) left Leaving.Normally (locals_of t.names mid.locals)) (sym (m.0 ∙ told)) ∙ e)
primitive_made false t old mid new at s look is h m told e moves go = cc
