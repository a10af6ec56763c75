-- A body that fits stays one that fits, and asks only what it may.
use Rattle.std.proofs.Common.{◌≡◌, refl, ap, ◌∙◌, sym, subst, ℕ, zero, suc, ◌-◌, Bool, true, false, List, [], ◌∷◌, ◌++◌, length, map, append-nil, append_assoc, Option, Some, None, Result, Ok, Err, arith}
use Rattle.std.proofs.lemmas.Bool.{and_from}
use Rattle.std.proofs.lemmas.Bool.Decides.{nat_tests}
use Rattle.std.proofs.lemmas.List.Folds.{list_all-append, list_all-map}
use Rattle.std.specs.Prelude.{◌&&◌, if◌then◌else◌, nat_lt, unwrap_or, is_some}
use Rattle.std.specs.List.{list_all}
use Rattle.gv_values.specs.declared.fault.FaultKind.{FaultKind}
use Rattle.gv_values.specs.declared.value.Value.{Value}
use Rattle.gv_values.specs.declared.value.Outcome.{Outcome}
use Rattle.gv_values.specs.Fault.{catches}
use Rattle.scenario_tree.specs.declared.tree.Action.{Action, Action-F, out-Action, map-Action, map_is-Action}
use Rattle.scenario_tree.specs.declared.tree.Action.TheBlock.{lays-Action, lays-Statement, the_family, the_fold, view-Action, shown-the_row-Statement-0}
use Rattle.scenario_tree.specs.declared.tree.Action.TheFolds.{family, steps}
use Rattle.scenario_tree.specs.declared.tree.Command.{Command}
use Rattle.scenario_tree.specs.declared.tree.Except.{Except, out-Except}
use Rattle.scenario_tree.specs.declared.tree.Expression.{Expression}
use Rattle.scenario_tree.specs.declared.tree.Function.{Function}
use Rattle.scenario_tree.specs.declared.tree.Giving.{Giving}
use Rattle.scenario_tree.specs.declared.tree.LinkEnd.{LinkEnd}
use Rattle.scenario_tree.specs.declared.tree.Scenario.{Scenario}
use Rattle.scenario_tree.specs.declared.tree.Statement.{Statement, out-Statement}
use Rattle.scenario_rules.specs.declared.mention.Mention.{Mention}
use Rattle.scenario_rules.specs.declared.mention.Says.{Says}
use Rattle.scenario_rules.specs.declared.mention.Says.TheVariants as says
use Rattle.scenario_rules.specs.declared.mention.Wanted.TheVariants as wanted
use Rattle.scenario_rules.specs.Mention.{Part, action_says, block_mentions, command_says, each_part, except_says, expression_says, giving_says, on, statement_mentions, statement_says, target_says, timeout_says}
use Rattle.scenario_rules.specs.declared.limits.TheConstants.{MOST_TIMEOUTS}
use Rattle.scenario_rules.specs.Layers.{action_mentions, except_mentions, handler_mentions}
use Rattle.scenario_rules.proofs.Layers.{except_out, in_block, in_handlers}
use Rattle.machine.specs.declared.state.Leaving.{Leaving}
use Rattle.machine.specs.declared.state.Local.{Local}
use Rattle.machine.specs.declared.state.Todo.{Todo}
use Rattle.machine.specs.State.{Name}
use Rattle.machine.specs.Expressions.{Around, function_number, meaning, object_number}
use Rattle.machine.specs.BodyMoves.{Asked, Did, action_move, asked, body_move, command_move, giving_request, if_any, many, on_value, one, one_or_two, tested, two, while_move, link_kind}
use Rattle.machine.specs.declared.request.Request.{Request}
use Rattle.machine.specs.Unwinding.{Caught, Unwound, bind_if, block_first, catching, finally_first, unwind}
use Rattle.machine_soundness.specs.Going.{is_meant_request, may_wait}
use Rattle.machine.proofs.Halves.{left, right}
use Rattle.machine_well_formed.specs.Texts.{fits, fits_block, fits_request, fits_rest, is_raw_function, left_in, may_say, withins, fits_link, is_wanted}

-- ---- what a statement says, by its form

abbrev perhaps_block : ℕ → Option (List Statement) → List Mention
perhaps_block left None = []
perhaps_block left (Some ss) = block_mentions left ss

abbrev form_mentions : Action-F Action Except Statement → ℕ → ℕ → List Mention
form_mentions (Action-F.Command c) line left = on line (command_says c)
form_mentions (Action-F.Giving t g) line left = on line (target_says t ++ giving_says g)
form_mentions (Action-F.If e then_part else_part) line left = on line (expression_says e) ++ block_mentions left then_part ++ perhaps_block left else_part
form_mentions (Action-F.While e body) line left = on line (expression_says e) ++ block_mentions left body
form_mentions (Action-F.Try body excepts finally) line left = block_mentions left body ++ handler_mentions left excepts ++ perhaps_block left finally
form_mentions (Action-F.Timeout after silent body) line left = on line (timeout_says left) ++ block_mentions (left - 1) body

abbrev mapped : Action-F Action Except Statement → Action-F (ℕ → Part) Part Part
mapped x = map-Action Action Except Statement (ℕ → Part) Part Part action_mentions except_mentions statement_mentions x

by-form : (x : Action-F Action Except Statement) (line left : ℕ) → action_says (mapped x) line left ≡ form_mentions x line left
by-form (Action-F.Command c) line left = refl
by-form (Action-F.Giving t g) line left = refl
by-form (Action-F.If e ss None) line left = ap (λ z. on line (expression_says e) ++ z ++ []) (in_block left ss)
by-form (Action-F.If e ss (Some rs)) line left =
    ap (λ z. on line (expression_says e) ++ z ++ each_part (map statement_mentions rs) left) (in_block left ss)
    ∙ ap (λ z. on line (expression_says e) ++ block_mentions left ss ++ z) (in_block left rs)
by-form (Action-F.While e ss) line left = ap (λ z. on line (expression_says e) ++ z) (in_block left ss)
by-form (Action-F.Try ss es None) line left =
    ap (λ z. z ++ each_part (map except_mentions es) left ++ []) (in_block left ss) ∙ ap (λ z. block_mentions left ss ++ z ++ []) (in_handlers left es)
by-form (Action-F.Try ss es (Some rs)) line left =
    ap (λ z. z ++ each_part (map except_mentions es) left ++ each_part (map statement_mentions rs) left) (in_block left ss)
    ∙ ap (λ z. block_mentions left ss ++ z ++ each_part (map statement_mentions rs) left) (in_handlers left es)
    ∙ ap (λ z. block_mentions left ss ++ handler_mentions left es ++ z) (in_block left rs)
by-form (Action-F.Timeout after silent ss) line left = ap (λ z. on line (timeout_says left) ++ z) (in_block (left - 1) ss)

action-out : (x : Action) → action_mentions x ≡ action_says (mapped (out-Action x))
unfolding out-Action denote.Hole.Carrier.out action_mentions except_mentions statement_mentions
action-out x =
    lays-Action (family (ℕ → Part) Part Part) (steps (ℕ → Part) Part Part action_says except_says statement_says) x
    ∙ ap action_says (map_is-Action the_family (family (ℕ → Part) Part Part) (the_fold (family (ℕ → Part) Part Part) (steps (ℕ → Part) Part Part action_says except_says statement_says)) (view-Action x))

statement-out : (s : Statement) (left : ℕ) → statement_mentions s left ≡ action_mentions (out-Statement s).action (out-Statement s).line left
unfolding statement_mentions action_mentions shown-the_row-Statement-0 denote.Hole.Carrier.shown
statement-out s left = ap (λ (f : Part). f left) (lays-Statement (family (ℕ → Part) Part Part) (steps (ℕ → Part) Part Part action_says except_says statement_says) s)

pub statement-form : (s : Statement) (left : ℕ) → statement_mentions s left ≡ form_mentions (out-Action (out-Statement s).action) (out-Statement s).line left
statement-form s left =
    statement-out s left ∙ ap (λ (f : ℕ → Part). f (out-Statement s).line left) (action-out (out-Statement s).action)
    ∙ by-form (out-Action (out-Statement s).action) (out-Statement s).line left

-- ---- parts

fits-left : (c : Scenario) (hub : Bool) (xs ys : List Mention) → fits c hub (xs ++ ys) ≡ true → fits c hub xs ≡ true
fits-left c hub xs ys h = left _ _ (sym (list_all-append (λ (m : Mention). may_say c hub m.says) xs ys) ∙ h)

fits-right : (c : Scenario) (hub : Bool) (xs ys : List Mention) → fits c hub (xs ++ ys) ≡ true → fits c hub ys ≡ true
fits-right c hub xs ys h = right (fits c hub xs) _ (sym (list_all-append (λ (m : Mention). may_say c hub m.says) xs ys) ∙ h)

line-fits : (c : Scenario) (hub : Bool) (line : ℕ) (ss : List Says) → fits c hub (on line ss) ≡ true → list_all (may_say c hub) ss ≡ true
line-fits c hub line ss h = sym (list_all-map (λ (m : Mention). may_say c hub m.says) (λ s. record { line = line; says = s }) ss) ∙ h

block-first-fits : (c : Scenario) (hub : Bool) (n : ℕ) (s : Statement) (ss : List Statement) → fits_block c hub n (s ∷ ss) ≡ true → fits c hub (statement_mentions s n) ≡ true
block-first-fits c hub n s ss h = fits-left c hub (statement_mentions s n) (block_mentions n ss) h

block-rest-fits : (c : Scenario) (hub : Bool) (n : ℕ) (s : Statement) (ss : List Statement) → fits_block c hub n (s ∷ ss) ≡ true → fits_block c hub n ss ≡ true
block-rest-fits c hub n s ss h = fits-right c hub (statement_mentions s n) (block_mentions n ss) h

-- ---- raising

-- where a body stands, with the numbers of blocks that it left and in which it is
pub record IsFitTodo (c : Scenario) (hub : Bool) (ns own : List ℕ) (todo : List Todo) : Type 0 where
  pub rest : fits_rest c hub todo ≡ true
  pub numbers : own ++ withins todo ≡ ns

abbrev pub IsFitUnwound : Scenario → Bool → List ℕ → Unwound → Type 0
IsFitUnwound c hub ns (Unwound.Runs own locals todo) = IsFitTodo c hub ns own todo
IsFitUnwound c hub ns (Unwound.Out own how) = own ≡ ns

abbrev IsFitCaught : Scenario → Bool → ℕ → Option Caught → Type 0
IsFitCaught c hub n None = Unit {0}
IsFitCaught c hub n (Some e) = fits_block c hub n e.body ≡ true

catching-fit : (c : Scenario) (hub : Bool) (n : ℕ) (f : FaultKind) (es : List Except) → fits c hub (handler_mentions n es) ≡ true → IsFitCaught c hub n (catching f es)
catching-fit c hub n f [] h = tt
catching-fit c hub n f (e ∷ es) h = by (catches (out-Except e).class f) (catching-fit c hub n f es (fits-right c hub (except_mentions e n) (handler_mentions n es) h))
  where
    own : fits_block c hub n (out-Except e).body ≡ true
    own =
        let whole : fits c hub (except_mentions e n) ≡ true = fits-left c hub (except_mentions e n) (handler_mentions n es) h in
        fits-right c hub (on (out-Except e).line (target_says (out-Except e).name)) (block_mentions n (out-Except e).body) (subst (λ ms. fits c hub ms ≡ true) (except_out e n) whole)

    by : (b : Bool) → IsFitCaught c hub n (catching f es) →
        IsFitCaught c hub n (if b then Some (record { name = (out-Except e).name; body = (out-Except e).body }) else catching f es)
    by true rest = own
    by false rest = rest

finally-fit : (c : Scenario) (hub : Bool) (ns : List ℕ) (ss : List Statement) (own : List ℕ) (how : Leaving) (locals : List Local) (todo : List Todo) (otherwise : Unwound) →
    fits_block c hub (left_in todo) ss ≡ true → fits_rest c hub todo ≡ true → own ++ withins todo ≡ ns → IsFitUnwound c hub ns otherwise →
    IsFitUnwound c hub ns (finally_first ss own how locals todo otherwise)
finally-fit c hub ns [] own how locals todo otherwise h k e o = o
finally-fit c hub ns (s ∷ ss) own how locals todo otherwise h k e o = record { rest = and_from (fits_block c hub (left_in todo) (s ∷ ss)) _ h k; numbers = e }

block-fit : (c : Scenario) (hub : Bool) (ns : List ℕ) (ss : List Statement) (own : List ℕ) (locals : List Local) (todo : List Todo) (otherwise : Unwound) →
    fits_block c hub (left_in todo) ss ≡ true → fits_rest c hub todo ≡ true → own ++ withins todo ≡ ns → IsFitUnwound c hub ns otherwise →
    IsFitUnwound c hub ns (block_first ss own locals todo otherwise)
block-fit c hub ns [] own locals todo otherwise h k e o = o
block-fit c hub ns (s ∷ ss) own locals todo otherwise h k e o = record { rest = and_from (fits_block c hub (left_in todo) (s ∷ ss)) _ h k; numbers = e }

pub unwind-fit : (c : Scenario) (hub : Bool) (ns : List ℕ) (todo : List Todo) (own : List ℕ) (how : Leaving) (locals : List Local) → fits_rest c hub todo ≡ true → own ++ withins todo ≡ ns →
    IsFitUnwound c hub ns (unwind todo own how locals)
unwind-fit c hub ns [] own how locals h e = sym (append-nil own) ∙ e
unwind-fit c hub ns (Todo.Statements [] ∷ todo) own how locals h e = unwind-fit c hub ns todo own how locals h e
unwind-fit c hub ns (Todo.Statements (s ∷ ss) ∷ todo) own Leaving.Normally locals h e = record { rest = h; numbers = e }
unwind-fit c hub ns (Todo.Statements (s ∷ ss) ∷ todo) own how locals h e = unwind-fit c hub ns todo own how locals (right (fits_block c hub (left_in todo) (s ∷ ss)) _ h) e
unwind-fit c hub ns (Todo.Again x body ∷ todo) own Leaving.Normally locals h e = record { rest = h; numbers = e }
unwind-fit c hub ns (Todo.Again x body ∷ todo) own how locals h e = unwind-fit c hub ns todo own how locals (right (fits_block c hub (left_in todo) body) _ h) e
unwind-fit c hub ns (Todo.Within n silent ∷ todo) own how locals h e =
    unwind-fit c hub ns todo (own ++ n ∷ []) _ locals (right (nat_lt 0 (left_in todo)) _ h) (append_assoc own (n ∷ []) (withins todo) ∙ e)
unwind-fit c hub ns (Todo.Afterwards before ∷ todo) own Leaving.Normally locals h e = unwind-fit c hub ns todo own before locals h e
unwind-fit c hub ns (Todo.Afterwards before ∷ todo) own how locals h e = unwind-fit c hub ns todo own how locals h e
unwind-fit c hub ns (Todo.Guard excepts finally ∷ todo) own (Leaving.Raising f) locals h e =
    by (catching f excepts) (catching-fit c hub (left_in todo) f excepts (left _ (fits_block c hub (left_in todo) finally) guard)) (λ how mine. unwind-fit c hub ns todo own how mine rest e)
  where
    guard : (fits c hub (handler_mentions (left_in todo) excepts) && fits_block c hub (left_in todo) finally) ≡ true
    guard = left _ (fits_rest c hub todo) h

    last : fits_block c hub (left_in todo) finally ≡ true
    last = right (fits c hub (handler_mentions (left_in todo) excepts)) _ guard

    rest : fits_rest c hub todo ≡ true
    rest = right (fits c hub (handler_mentions (left_in todo) excepts) && fits_block c hub (left_in todo) finally) _ h

    by : (o : Option Caught) → IsFitCaught c hub (left_in todo) o → ((how : Leaving) (mine : List Local) → IsFitUnwound c hub ns (unwind todo own how mine)) →
        IsFitUnwound c hub ns (elim o [
          | None ↦ finally_first finally own (Leaving.Raising f) locals todo (unwind todo own (Leaving.Raising f) locals)
          | Some e ↦
              block_first e.body own (bind_if e.name (Value.Fault f) locals) (Todo.Guard [] finally ∷ todo)
              (finally_first finally own Leaving.Normally (bind_if e.name (Value.Fault f) locals) todo
              (unwind todo own Leaving.Normally (bind_if e.name (Value.Fault f) locals)))
        ])
    by None k outer = finally-fit c hub ns finally own (Leaving.Raising f) locals todo (unwind todo own (Leaving.Raising f) locals) last rest e (outer (Leaving.Raising f) locals)
    by (Some x) k outer =
        let mine = bind_if x.name (Value.Fault f) locals in
        block-fit c hub ns x.body own mine (Todo.Guard [] finally ∷ todo)
        (finally_first finally own Leaving.Normally mine todo (unwind todo own Leaving.Normally mine)) k (and_from (fits_block c hub (left_in todo) finally) _ last rest) e
        (finally-fit c hub ns finally own Leaving.Normally mine todo (unwind todo own Leaving.Normally mine) last rest e (outer Leaving.Normally mine))
unwind-fit c hub ns (Todo.Guard excepts finally ∷ todo) own how locals h e =
    finally-fit c hub ns finally own how locals todo (unwind todo own how locals)
    (right (fits c hub (handler_mentions (left_in todo) excepts)) _ (left _ (fits_rest c hub todo) h))
    (right (fits c hub (handler_mentions (left_in todo) excepts) && fits_block c hub (left_in todo) finally) _ h) e
    (unwind-fit c hub ns todo own how locals (right (fits c hub (handler_mentions (left_in todo) excepts) && fits_block c hub (left_in todo) finally) _ h) e)

-- ---- one move

-- a request that a body may ask
pub record IsFitRequest (c : Scenario) (hub : Bool) (r : Request) : Type 0 where
  pub meant : is_meant_request hub r ≡ true
  pub fit : fits_request c r ≡ true

-- a move of a body that is in these timeout blocks
abbrev pub IsFitDid : Scenario → Bool → List ℕ → Did → Type 0
IsFitDid c hub ns (Did.GoesOn how locals todo) = IsFitTodo c hub ns [] todo
IsFitDid c hub ns (Did.Enters ms silent body todo) = (hub ≡ true) × IsFitTodo c hub ns [] todo × ((n : ℕ) → fits_rest c hub (Todo.Statements body ∷ Todo.Within n silent ∷ todo) ≡ true)
IsFitDid c hub ns (Did.Asks request x todo) = IsFitRequest c hub request × IsFitTodo c hub ns [] todo

abbrev IsFitAsked : Scenario → Bool → Asked → Type 0
IsFitAsked c hub (Ok request) = IsFitRequest c hub request
IsFitAsked c hub (Err f) = Unit {0}

on_value-fit : (c : Scenario) (hub : Bool) (ns : List ℕ) (o : Outcome) (go : Value → Did) (locals : List Local) (todo : List Todo) → IsFitTodo c hub ns [] todo →
    ((v : Value) → IsFitDid c hub ns (go v)) → IsFitDid c hub ns (on_value o go locals todo)
on_value-fit c hub ns (Outcome.Value v) go locals todo h k = k v
on_value-fit c hub ns (Outcome.Fault f) go locals todo h k = h

tested-fit : (c : Scenario) (hub : Bool) (ns : List ℕ) (o : Outcome) (locals : List Local) (go : Bool → List Todo) → ((b : Bool) → IsFitTodo c hub ns [] (go b)) →
    IsFitDid c hub ns (tested o locals go)
tested-fit c hub ns (Outcome.Value (Value.Bool b)) locals go k = k b
tested-fit c hub ns (Outcome.Value v) locals go k = k false
tested-fit c hub ns (Outcome.Fault f) locals go k = k false

asked-fit : (c : Scenario) (hub : Bool) (ns : List ℕ) (r : Asked) (x : Option Name) (locals : List Local) (todo : List Todo) → IsFitAsked c hub r → IsFitTodo c hub ns [] todo →
    IsFitDid c hub ns (asked r x locals todo)
asked-fit c hub ns (Ok request) x locals todo h k = (h, k)
asked-fit c hub ns (Err f) x locals todo h k = k

one-fit : (c : Scenario) (hub : Bool) (o : Outcome) (r : Value → Request) → ((v : Value) → IsFitRequest c hub (r v)) → IsFitAsked c hub (one o r)
one-fit c hub (Outcome.Value v) r k = k v
one-fit c hub (Outcome.Fault f) r k = tt

two-fit : (c : Scenario) (hub : Bool) (o p : Outcome) (r : Value → Value → Request) → ((v w : Value) → IsFitRequest c hub (r v w)) → IsFitAsked c hub (two o p r)
two-fit c hub (Outcome.Value v) (Outcome.Value w) r k = k v w
two-fit c hub (Outcome.Value v) (Outcome.Fault f) r k = tt
two-fit c hub (Outcome.Fault f) p r k = tt

one_or_two-fit : (c : Scenario) (hub : Bool) (o : Outcome) (p : Option Outcome) (r : Value → Option Value → Request) → ((v : Value) (w : Option Value) → IsFitRequest c hub (r v w)) →
    IsFitAsked c hub (one_or_two o p r)
one_or_two-fit c hub (Outcome.Fault f) p r k = tt
one_or_two-fit c hub (Outcome.Value v) None r k = k v None
one_or_two-fit c hub (Outcome.Value v) (Some (Outcome.Value w)) r k = k v (Some w)
one_or_two-fit c hub (Outcome.Value v) (Some (Outcome.Fault f)) r k = tt

if_any-fit : (c : Scenario) (hub : Bool) (p : Option Outcome) (r : Option Value → Request) → ((w : Option Value) → IsFitRequest c hub (r w)) → IsFitAsked c hub (if_any p r)
if_any-fit c hub None r k = k None
if_any-fit c hub (Some (Outcome.Value w)) r k = k (Some w)
if_any-fit c hub (Some (Outcome.Fault f)) r k = tt

many-fit : (c : Scenario) (hub : Bool) (vs : Result (List Value) FaultKind) (r : List Value → Request) → ((args : List Value) → IsFitRequest c hub (r args)) → IsFitAsked c hub (many vs r)
many-fit c hub (Ok args) r k = k args
many-fit c hub (Err f) r k = tt

-- a body that may ask the hub may ask all
free : (c : Scenario) (hub : Bool) (r : Request) → hub ≡ true → fits_request c r ≡ true → IsFitRequest c hub r
free c hub r e f = record { meant = by (may_wait r); fit = f }
  where
    by : (b : Bool) → (if b then hub else true) ≡ true
    by true = e
    by false = refl

while_move-fit : (c : Scenario) (hub : Bool) (ns : List ℕ) (e : Expression) (body : List Statement) (a : Around) (todo : List Todo) → fits_block c hub (left_in todo) body ≡ true →
    IsFitTodo c hub ns [] todo → IsFitDid c hub ns (while_move e body a todo)
while_move-fit c hub ns e body a todo h k =
    tested-fit c hub ns (meaning e a) a.locals (λ b. if b then (Todo.Statements body ∷ Todo.Again e body ∷ todo) else todo) by
  where
    by : (b : Bool) → IsFitTodo c hub ns [] (if b then (Todo.Statements body ∷ Todo.Again e body ∷ todo) else todo)
    by true = record { rest = and_from (fits_block c hub (left_in todo) body) _ h (and_from (fits_block c hub (left_in todo) body) _ h k.rest); numbers = k.numbers }
    by false = k

-- the first word of a statement that asks the hub
abbrev asks_first : List Says → Bool
asks_first (says.AsksHub ∷ ss) = true
asks_first ss = false

hub-asked : (c : Scenario) (hub : Bool) (ss : List Says) → asks_first ss ≡ true → list_all (may_say c hub) ss ≡ true → hub ≡ true
hub-asked c hub (says.AsksHub ∷ ss) e h = left hub (list_all (may_say c hub) ss) h
hub-asked c hub ss e h = absurd (cc e)

-- what the second and the third word say
abbrev says_second : List Says → Option Says
says_second (s ∷ t ∷ ss) = Some t
says_second ss = None

abbrev says_third : List Says → Option Says
says_third (s ∷ t ∷ u ∷ ss) = Some u
says_third ss = None

abbrev said-fits : Scenario → Bool → Option Says → Bool
said-fits c hub None = false
said-fits c hub (Some s) = may_say c hub s

second-said : (c : Scenario) (hub : Bool) (ss : List Says) → is_some (says_second ss) ≡ true → list_all (may_say c hub) ss ≡ true → said-fits c hub (says_second ss) ≡ true
second-said c hub (s ∷ t ∷ ss) e h = left (may_say c hub t) _ (right (may_say c hub s) _ h)
second-said c hub (s ∷ []) e h = absurd (cc e)
second-said c hub [] e h = absurd (cc e)

third-said : (c : Scenario) (hub : Bool) (ss : List Says) → is_some (says_third ss) ≡ true → list_all (may_say c hub) ss ≡ true → said-fits c hub (says_third ss) ≡ true
third-said c hub (s ∷ t ∷ u ∷ ss) e h = left (may_say c hub u) _ (right (may_say c hub t) _ (right (may_say c hub s) _ h))
third-said c hub (s ∷ t ∷ []) e h = absurd (cc e)
third-said c hub (s ∷ []) e h = absurd (cc e)
third-said c hub [] e h = absurd (cc e)

-- the words at the end of a link
last-said : (c : Scenario) (hub : Bool) (ss : List Says) (s : Says) → list_all (may_say c hub) (ss ++ s ∷ []) ≡ true → may_say c hub s ≡ true
last-said c hub ss s h = left (may_say c hub s) true (right (list_all (may_say c hub) ss) _ (sym (list_all-append (may_say c hub) ss (s ∷ [])) ∙ h))

link-said : (c : Scenario) (hub : Bool) (k : LinkEnd) (e : Expression) (f : Name) (fs : List Function) → list_all (may_say c hub) (giving_says (Giving.Link k e f)) ≡ true →
    fits_link c (link_kind k) (function_number f c.functions) ≡ true
link-said c hub LinkEnd.Any e f fs h = last-said c hub (says.AsksHub ∷ expression_says e) (says.Calls 1 f) h
link-said c hub LinkEnd.Value e f fs h = last-said c hub (says.AsksHub ∷ expression_says e) (says.Calls 1 f) h
link-said c hub LinkEnd.Fault e f fs h = last-said c hub (says.AsksHub ∷ expression_says e) (says.Calls 1 f) h

set-said : (c : Scenario) (hub : Bool) (e : Expression) (x : Name) → list_all (may_say c hub) (giving_says (Giving.LinkSet e x)) ≡ true → is_wanted c wanted.Event (object_number x c.objects) ≡ true
set-said c hub e x h = last-said c hub (says.AsksHub ∷ expression_says e) (says.Object wanted.Event x) h

command_move-fit : (hub : Bool) (ns : List ℕ) (x : Command) (a : Around) (todo : List Todo) → list_all (may_say a.scenario hub) (command_says x) ≡ true → IsFitTodo a.scenario hub ns [] todo →
    IsFitDid a.scenario hub ns (command_move x a todo)
command_move-fit hub ns (Command.Let x e) a todo h k = on_value-fit a.scenario hub ns (meaning e a) _ a.locals todo k (λ v. k)
command_move-fit hub ns (Command.Return e) a todo h k = on_value-fit a.scenario hub ns (meaning e a) _ a.locals todo k (λ v. k)
command_move-fit hub ns (Command.Raise e) a todo h k = on_value-fit a.scenario hub ns (meaning e a) _ a.locals todo k (λ v. k)
command_move-fit hub ns (Command.Print e) a todo h k =
    asked-fit a.scenario hub ns _ None a.locals todo (one-fit a.scenario hub (meaning e a) _ (λ v. record { meant = refl; fit = refl })) k
command_move-fit hub ns (Command.SetParent e d) a todo h k =
    asked-fit a.scenario hub ns _ None a.locals todo (two-fit a.scenario hub (meaning e a) (meaning d a) _ (λ v w. record { meant = refl; fit = refl })) k
command_move-fit hub ns (Command.Start e) a todo h k =
    asked-fit a.scenario hub ns _ None a.locals todo (one-fit a.scenario hub (meaning e a) _ (λ v. free a.scenario hub _ (hub-asked a.scenario hub (command_says (Command.Start e)) refl h) refl)) k
command_move-fit hub ns (Command.Sleep ms) a todo h k = (free a.scenario hub _ (hub-asked a.scenario hub (command_says (Command.Sleep ms)) refl h) refl, k)
command_move-fit hub ns (Command.Join e t) a todo h k =
    asked-fit a.scenario hub ns _ None a.locals todo (one-fit a.scenario hub (meaning e a) _ (λ v. free a.scenario hub _ (hub-asked a.scenario hub (command_says (Command.Join e t)) refl h) refl)) k
command_move-fit hub ns (Command.Kill e f w) a todo h k =
    asked-fit a.scenario hub ns _ None a.locals todo
    (one_or_two-fit a.scenario hub (meaning e a) _ _ (λ v o. free a.scenario hub _ (hub-asked a.scenario hub (command_says (Command.Kill e f w)) refl h) refl)) k
command_move-fit hub ns (Command.KillAll e f w) a todo h k =
    asked-fit a.scenario hub ns _ None a.locals todo
    (one_or_two-fit a.scenario hub (meaning e a) _ _ (λ v o. free a.scenario hub _ (hub-asked a.scenario hub (command_says (Command.KillAll e f w)) refl h) refl)) k
command_move-fit hub ns (Command.Unlink e) a todo h k =
    asked-fit a.scenario hub ns _ None a.locals todo (one-fit a.scenario hub (meaning e a) _ (λ v. free a.scenario hub _ (hub-asked a.scenario hub (command_says (Command.Unlink e)) refl h) refl)) k
command_move-fit hub ns (Command.Set x) a todo h k = (free a.scenario hub _ (hub-asked a.scenario hub (command_says (Command.Set x)) refl h) (second-said a.scenario hub (command_says (Command.Set x)) refl h), k)
command_move-fit hub ns (Command.Clear x) a todo h k = (free a.scenario hub _ (hub-asked a.scenario hub (command_says (Command.Clear x)) refl h) (second-said a.scenario hub (command_says (Command.Clear x)) refl h), k)
command_move-fit hub ns (Command.ResultSet x e) a todo h k =
    asked-fit a.scenario hub ns _ None a.locals todo (one-fit a.scenario hub (meaning e a) _ (λ v. free a.scenario hub _ (hub-asked a.scenario hub (command_says (Command.ResultSet x e)) refl h) (second-said a.scenario hub (command_says (Command.ResultSet x e)) refl h))) k
command_move-fit hub ns (Command.ResultFail x e) a todo h k =
    asked-fit a.scenario hub ns _ None a.locals todo (one-fit a.scenario hub (meaning e a) _ (λ v. free a.scenario hub _ (hub-asked a.scenario hub (command_says (Command.ResultFail x e)) refl h) (second-said a.scenario hub (command_says (Command.ResultFail x e)) refl h))) k
command_move-fit hub ns (Command.Release x) a todo h k = (free a.scenario hub _ (hub-asked a.scenario hub (command_says (Command.Release x)) refl h) (second-said a.scenario hub (command_says (Command.Release x)) refl h), k)
command_move-fit hub ns (Command.QueuePut x e w) a todo h k =
    asked-fit a.scenario hub ns _ None a.locals todo (one-fit a.scenario hub (meaning e a) _ (λ v. free a.scenario hub _ (hub-asked a.scenario hub (command_says (Command.QueuePut x e w)) refl h) (second-said a.scenario hub (command_says (Command.QueuePut x e w)) refl h))) k
command_move-fit hub ns (Command.QueueDone x) a todo h k = (free a.scenario hub _ (hub-asked a.scenario hub (command_says (Command.QueueDone x)) refl h) (second-said a.scenario hub (command_says (Command.QueueDone x)) refl h), k)
command_move-fit hub ns (Command.GroupJoin x t) a todo h k = (free a.scenario hub _ (hub-asked a.scenario hub (command_says (Command.GroupJoin x t)) refl h) (second-said a.scenario hub (command_says (Command.GroupJoin x t)) refl h), k)
command_move-fit hub ns (Command.GroupKill x f now) a todo h k =
    asked-fit a.scenario hub ns _ None a.locals todo (if_any-fit a.scenario hub _ _ (λ o. free a.scenario hub _ (hub-asked a.scenario hub (command_says (Command.GroupKill x f now)) refl h) (second-said a.scenario hub (command_says (Command.GroupKill x f now)) refl h))) k
command_move-fit hub ns (Command.ChannelPut x e) a todo h k =
    asked-fit a.scenario hub ns _ None a.locals todo (one-fit a.scenario hub (meaning e a) _ (λ v. free a.scenario hub _ (hub-asked a.scenario hub (command_says (Command.ChannelPut x e)) refl h) (second-said a.scenario hub (command_says (Command.ChannelPut x e)) refl h))) k
command_move-fit hub ns (Command.QueueShut x now) a todo h k = (free a.scenario hub _ (hub-asked a.scenario hub (command_says (Command.QueueShut x now)) refl h) (second-said a.scenario hub (command_says (Command.QueueShut x now)) refl h), k)

-- what a statement that gives a value asks
giving-asked : (hub : Bool) (x : Giving) (a : Around) → list_all (may_say a.scenario hub) (giving_says x) ≡ true → IsFitAsked a.scenario hub (giving_request x a)
giving-asked hub (Giving.Spawn f es) a h = many-fit a.scenario hub _ _ (λ args. free a.scenario hub _ (hub-asked a.scenario hub (giving_says (Giving.Spawn f es)) refl h) (second-said a.scenario hub (giving_says (Giving.Spawn f es)) refl h))
giving-asked hub (Giving.SpawnLater ms f es) a h = many-fit a.scenario hub _ _ (λ args. free a.scenario hub _ (hub-asked a.scenario hub (giving_says (Giving.SpawnLater ms f es)) refl h) (second-said a.scenario hub (giving_says (Giving.SpawnLater ms f es)) refl h))
giving-asked hub (Giving.New f es) a h = many-fit a.scenario hub _ _ (λ args. free a.scenario hub _ (hub-asked a.scenario hub (giving_says (Giving.New f es)) refl h) (second-said a.scenario hub (giving_says (Giving.New f es)) refl h))
giving-asked hub (Giving.Get e w) a h = one-fit a.scenario hub (meaning e a) _ (λ v. free a.scenario hub _ (hub-asked a.scenario hub (giving_says (Giving.Get e w)) refl h) refl)
giving-asked hub (Giving.JoinAll e n t) a h = one-fit a.scenario hub (meaning e a) _ (λ v. free a.scenario hub _ (hub-asked a.scenario hub (giving_says (Giving.JoinAll e n t)) refl h) refl)
giving-asked hub (Giving.Link k e f) a h = one-fit a.scenario hub (meaning e a) _ (λ v. free a.scenario hub _ (hub-asked a.scenario hub (giving_says (Giving.Link k e f)) refl h) (link-said a.scenario hub k e f a.scenario.functions h))
giving-asked hub (Giving.LinkMark e n) a h = one-fit a.scenario hub (meaning e a) _ (λ v. free a.scenario hub _ (hub-asked a.scenario hub (giving_says (Giving.LinkMark e n)) refl h) refl)
giving-asked hub (Giving.LinkSet e x) a h = one-fit a.scenario hub (meaning e a) _ (λ v. free a.scenario hub _ (hub-asked a.scenario hub (giving_says (Giving.LinkSet e x)) refl h) (set-said a.scenario hub e x h))
giving-asked hub (Giving.WaitEvent x t) a h = free a.scenario hub _ (hub-asked a.scenario hub (giving_says (Giving.WaitEvent x t)) refl h) (second-said a.scenario hub (giving_says (Giving.WaitEvent x t)) refl h)
giving-asked hub (Giving.ResultGet x w) a h = free a.scenario hub _ (hub-asked a.scenario hub (giving_says (Giving.ResultGet x w)) refl h) (second-said a.scenario hub (giving_says (Giving.ResultGet x w)) refl h)
giving-asked hub (Giving.ResultWait x t) a h = free a.scenario hub _ (hub-asked a.scenario hub (giving_says (Giving.ResultWait x t)) refl h) (second-said a.scenario hub (giving_says (Giving.ResultWait x t)) refl h)
giving-asked hub (Giving.Acquire x w) a h = free a.scenario hub _ (hub-asked a.scenario hub (giving_says (Giving.Acquire x w)) refl h) (second-said a.scenario hub (giving_says (Giving.Acquire x w)) refl h)
giving-asked hub (Giving.ChannelGet x) a h = free a.scenario hub _ (hub-asked a.scenario hub (giving_says (Giving.ChannelGet x)) refl h) (second-said a.scenario hub (giving_says (Giving.ChannelGet x)) refl h)
giving-asked hub (Giving.QueueGet x w) a h = free a.scenario hub _ (hub-asked a.scenario hub (giving_says (Giving.QueueGet x w)) refl h) (second-said a.scenario hub (giving_says (Giving.QueueGet x w)) refl h)
giving-asked hub (Giving.QueuePeek x w) a h = free a.scenario hub _ (hub-asked a.scenario hub (giving_says (Giving.QueuePeek x w)) refl h) (second-said a.scenario hub (giving_says (Giving.QueuePeek x w)) refl h)
giving-asked hub (Giving.QueueJoin x t) a h = free a.scenario hub _ (hub-asked a.scenario hub (giving_says (Giving.QueueJoin x t)) refl h) (second-said a.scenario hub (giving_says (Giving.QueueJoin x t)) refl h)
giving-asked hub (Giving.GroupSpawn x f es) a h = many-fit a.scenario hub _ _ (λ args. free a.scenario hub _ (hub-asked a.scenario hub (giving_says (Giving.GroupSpawn x f es)) refl h) (and_from _ _ (second-said a.scenario hub (giving_says (Giving.GroupSpawn x f es)) refl h) (third-said a.scenario hub (giving_says (Giving.GroupSpawn x f es)) refl h)))
giving-asked hub (Giving.Map x f e) a h = one-fit a.scenario hub (meaning e a) _ (λ v. free a.scenario hub _ (hub-asked a.scenario hub (giving_says (Giving.Map x f e)) refl h) (and_from _ _ (second-said a.scenario hub (giving_says (Giving.Map x f e)) refl h) (third-said a.scenario hub (giving_says (Giving.Map x f e)) refl h)))
giving-asked hub (Giving.NativeSpawn x k e t) a h = one-fit a.scenario hub (meaning e a) _ (λ v. free a.scenario hub _ (hub-asked a.scenario hub (giving_says (Giving.NativeSpawn x k e t)) refl h) (second-said a.scenario hub (giving_says (Giving.NativeSpawn x k e t)) refl h))
giving-asked hub (Giving.Raw f e) a h =
    if_any-fit a.scenario hub _ _ (λ w. record { meant = refl; fit = left (is_raw_function a.scenario (function_number f a.scenario.functions)) _ h })
giving-asked hub (Giving.Switch e d) a h = two-fit a.scenario hub (meaning e a) (meaning d a) _ (λ v w. record { meant = refl; fit = refl })
giving-asked hub (Giving.Throw e d) a h = one_or_two-fit a.scenario hub (meaning e a) _ _ (λ v w. record { meant = refl; fit = refl })

perhaps-fit : (c : Scenario) (hub : Bool) (n : ℕ) (ss : Option (List Statement)) → fits c hub (perhaps_block n ss) ≡ true → fits_block c hub n (unwrap_or ss []) ≡ true
perhaps-fit c hub n None h = refl
perhaps-fit c hub n (Some ss) h = h

-- a timeout block may be opened where one is left
one-left : (c : Scenario) (hub : Bool) (line n : ℕ) → fits c hub (on line (timeout_says n)) ≡ true → (hub ≡ true) × (nat_lt 0 n ≡ true)
one-left c hub line zero h = let l = line-fits c hub line (says.AsksHub ∷ says.NestsTooDeep ∷ []) h in absurd (by hub l)
  where
    by : (b : Bool) → (b && (false && true)) ≡ true → ⊥
    by true e = cc e
    by false e = cc e
one-left c hub line (suc n) h = (hub-asked c hub (says.AsksHub ∷ []) refl (line-fits c hub line (says.AsksHub ∷ []) h), grind (arith, nat_tests))

fewer-left : (n : ℕ) (todo : List Todo) (silent : Bool) → left_in todo - 1 ≡ left_in (Todo.Within n silent ∷ todo)
fewer-left n todo silent = let e : MOST_TIMEOUTS - length (withins todo) - 1 ≡ MOST_TIMEOUTS - suc (length (withins todo)) = omega arith in e

action_move-fit : (hub : Bool) (ns : List ℕ) (x : Action-F Action Except Statement) (line : ℕ) (a : Around) (todo : List Todo) → fits a.scenario hub (form_mentions x line (left_in todo)) ≡ true →
    IsFitTodo a.scenario hub ns [] todo → IsFitDid a.scenario hub ns (action_move x a todo)
action_move-fit hub ns (Action-F.Command x) line a todo h k = command_move-fit hub ns x a todo (line-fits a.scenario hub line (command_says x) h) k
action_move-fit hub ns (Action-F.Giving target x) line a todo h k =
    let whole = line-fits a.scenario hub line (target_says target ++ giving_says x) h in
    let own = right (list_all (may_say a.scenario hub) (target_says target)) _ (sym (list_all-append (may_say a.scenario hub) (target_says target) (giving_says x)) ∙ whole) in
    asked-fit a.scenario hub ns (giving_request x a) target a.locals todo (giving-asked hub x a own) k
action_move-fit hub ns (Action-F.If e yes' no') line a todo h k =
    tested-fit a.scenario hub ns (meaning e a) a.locals (λ b. Todo.Statements (if b then yes' else unwrap_or no' []) ∷ todo) by
  where
    front : fits a.scenario hub (on line (expression_says e) ++ block_mentions (left_in todo) yes') ≡ true
    front = fits-left a.scenario hub (on line (expression_says e) ++ block_mentions (left_in todo) yes') (perhaps_block (left_in todo) no') h

    by : (b : Bool) → IsFitTodo a.scenario hub ns [] (Todo.Statements (if b then yes' else unwrap_or no' []) ∷ todo)
    by true =
        record { rest = and_from (fits_block a.scenario hub (left_in todo) yes') _ (fits-right a.scenario hub (on line (expression_says e)) (block_mentions (left_in todo) yes') front) k.rest; numbers = k.numbers }
    by false =
        record {
          rest = and_from (fits_block a.scenario hub (left_in todo) (unwrap_or no' [])) _
              (perhaps-fit a.scenario hub (left_in todo) no' (fits-right a.scenario hub (on line (expression_says e) ++ block_mentions (left_in todo) yes') (perhaps_block (left_in todo) no') h)) k.rest;
          numbers = k.numbers;
        }
action_move-fit hub ns (Action-F.While e body) line a todo h k =
    while_move-fit a.scenario hub ns e body a todo (fits-right a.scenario hub (on line (expression_says e)) (block_mentions (left_in todo) body) h) k
action_move-fit hub ns (Action-F.Try body excepts finally) line a todo h k =
    let n = left_in todo in
    let tried = fits-left a.scenario hub (block_mentions n body ++ handler_mentions n excepts) (perhaps_block n finally) h in
    record {
      rest = and_from (fits_block a.scenario hub n body) _ (fits-left a.scenario hub (block_mentions n body) (handler_mentions n excepts) tried)
          (and_from (fits a.scenario hub (handler_mentions n excepts) && fits_block a.scenario hub n (unwrap_or finally [])) _
          (and_from (fits a.scenario hub (handler_mentions n excepts)) _ (fits-right a.scenario hub (block_mentions n body) (handler_mentions n excepts) tried)
          (perhaps-fit a.scenario hub n finally (fits-right a.scenario hub (block_mentions n body ++ handler_mentions n excepts) (perhaps_block n finally) h))) k.rest);
      numbers = k.numbers;
    }
action_move-fit hub ns (Action-F.Timeout ms silent body) line a todo h k =
    let n = left_in todo in
    let one = one-left a.scenario hub line n (fits-left a.scenario hub (on line (timeout_says n)) (block_mentions (n - 1) body) h) in
    let inner = fits-right a.scenario hub (on line (timeout_says n)) (block_mentions (n - 1) body) h in (
      one.0,
      k,
      λ m. and_from (fits_block a.scenario hub (left_in (Todo.Within m silent ∷ todo)) body) _
          (subst (λ z. fits_block a.scenario hub z body ≡ true) (fewer-left m todo silent) inner) (and_from (nat_lt 0 n) _ one.1 k.rest),
    )

pub body_move-fit : (hub : Bool) (todo : List Todo) (a : Around) → fits_rest a.scenario hub todo ≡ true → IsFitDid a.scenario hub (withins todo) (body_move todo a)
body_move-fit hub (Todo.Statements (s ∷ ss) ∷ todo) a h =
    let n = left_in todo in
    let own : fits a.scenario hub (statement_mentions s n) ≡ true = block-first-fits a.scenario hub n s ss (left _ (fits_rest a.scenario hub todo) h) in
    action_move-fit hub (withins todo) (out-Action (out-Statement s).action) (out-Statement s).line a (Todo.Statements ss ∷ todo)
    (subst (λ ms. fits a.scenario hub ms ≡ true) (statement-form s n) own)
    (record {
      rest = and_from (fits_block a.scenario hub n ss) _ (block-rest-fits a.scenario hub n s ss (left _ (fits_rest a.scenario hub todo) h)) (right (fits_block a.scenario hub n (s ∷ ss)) _ h);
      numbers = refl;
    })
body_move-fit hub (Todo.Again e body ∷ todo) a h =
    while_move-fit a.scenario hub (withins todo) e body a todo (left _ (fits_rest a.scenario hub todo) h)
    (record { rest = right (fits_block a.scenario hub (left_in todo) body) _ h; numbers = refl })
body_move-fit hub todo a h = record { rest = h; numbers = refl }
