-- What has few arguments in each call has few in each of its parts, by its outermost form.
use Rattle.std.proofs.Common.{◌≡◌, ◌≤◌, refl, ap, ◌∙◌, sym, subst, ℕ, zero, suc, Bool, true, List, [], ◌∷◌, length, map, Option, Some, None, arith}
use Rattle.std.proofs.lemmas.Bool.{and_parts}
use Rattle.std.proofs.lemmas.Bool.Decides.{nat_tests}
use Rattle.std.proofs.lemmas.List.Folds.{list_all-map}
use Rattle.std.specs.Prelude.{◌&&◌, nat_le, slice_get, unwrap_or}
use Rattle.std.specs.List.{list_all}
use Rattle.scenario_tree.specs.declared.tree.Action.{Action, Action-F, out-Action, map-Action, map_is-Action}
use Rattle.scenario_tree.specs.declared.tree.Action.TheBlock.{lays-Action, lays-Except, lays-Statement, the_family, the_fold, view-Action, shown-the_row-Statement-0, shown-the_row-Except-1}
use Rattle.scenario_tree.specs.declared.tree.Action.TheFolds.{family, steps}
use Rattle.scenario_tree.specs.declared.tree.Except.{Except, out-Except}
use Rattle.scenario_tree.specs.declared.tree.Function.{Function}
use Rattle.scenario_tree.specs.declared.tree.Giving.{Giving}
use Rattle.scenario_tree.specs.declared.tree.Scenario.{Scenario}
use Rattle.scenario_tree.specs.declared.tree.Statement.{Statement, out-Statement}
use Rattle.scenario_tree.specs.declared.limits.TheConstants.{MOST_PARAMETERS}
use Rattle.machine.specs.Greenlets.{no_function}
use Rattle.body_blocks.specs.Few.{HasFew, HasFewArguments, HasFewCalls, HasFewExcepts, HasFewParts, action_few, all_few, except_few, gives_few, has_few, has_few_action, has_few_except, has_few_function, statement_few}

-- ---- one level

-- a block that may be left out
abbrev pub has_few_if_any : Option (List Statement) → Bool
has_few_if_any None = true
has_few_if_any (Some ss) = list_all has_few ss

-- what stands on the line of a statement, by its form
abbrev pub has_few_form : Action-F Action Except Statement → Bool
has_few_form (Action-F.Command x) = true
has_few_form (Action-F.Giving target x) = gives_few x
has_few_form (Action-F.If e then_part else_part) = list_all has_few then_part && has_few_if_any else_part
has_few_form (Action-F.While e body) = list_all has_few body
has_few_form (Action-F.Try body excepts finally) = list_all has_few body && list_all has_few_except excepts && has_few_if_any finally
has_few_form (Action-F.Timeout ms silent body) = list_all has_few body

all-mapped : {X : Type 0} (p : X → Bool) (xs : List X) → all_few (map p xs) ≡ list_all p xs
all-mapped p xs = list_all-map (λ part. part) p xs

abbrev mapped : Action-F Action Except Statement → Action-F Bool Bool Bool
mapped x = map-Action Action Except Statement Bool Bool Bool has_few_action has_few_except has_few x

by-form : (x : Action-F Action Except Statement) → action_few (mapped x) ≡ has_few_form x
by-form (Action-F.Command x) = refl
by-form (Action-F.Giving target x) = refl
by-form (Action-F.If e then_part None) = ap (λ b. b && true) (all-mapped has_few then_part)
by-form (Action-F.If e then_part (Some else_part)) =
    ap (λ b. b && all_few (map has_few else_part)) (all-mapped has_few then_part)
    ∙ ap (λ b. list_all has_few then_part && b) (all-mapped has_few else_part)
by-form (Action-F.While e body) = all-mapped has_few body
by-form (Action-F.Try body excepts None) =
    ap (λ b. b && all_few (map has_few_except excepts) && true) (all-mapped has_few body)
    ∙ ap (λ b. list_all has_few body && b && true) (all-mapped has_few_except excepts)
by-form (Action-F.Try body excepts (Some finally)) =
    ap (λ b. b && all_few (map has_few_except excepts) && all_few (map has_few finally)) (all-mapped has_few body)
    ∙ ap (λ b. list_all has_few body && b && all_few (map has_few finally)) (all-mapped has_few_except excepts)
    ∙ ap (λ b. list_all has_few body && list_all has_few_except excepts && b) (all-mapped has_few finally)
by-form (Action-F.Timeout ms silent body) = all-mapped has_few body

action-out : (x : Action) → has_few_action x ≡ action_few (mapped (out-Action x))
unfolding out-Action denote.Hole.Carrier.out has_few_action has_few_except has_few
action-out x =
    lays-Action (family Bool Bool Bool) (steps Bool Bool Bool action_few except_few statement_few) x
    ∙ ap action_few (map_is-Action the_family (family Bool Bool Bool) (the_fold (family Bool Bool Bool) (steps Bool Bool Bool action_few except_few statement_few)) (view-Action x))

pub action-few : (x : Action) → has_few_action x ≡ has_few_form (out-Action x)
action-few x = action-out x ∙ by-form (out-Action x)

pub statement-out : (s : Statement) → has_few s ≡ has_few_action (out-Statement s).action
unfolding has_few has_few_action shown-the_row-Statement-0 denote.Hole.Carrier.shown
statement-out s = lays-Statement (family Bool Bool Bool) (steps Bool Bool Bool action_few except_few statement_few) s

pub except-few : (e : Except) → has_few_except e ≡ list_all has_few (out-Except e).body
unfolding has_few_except has_few out-Except shown-the_row-Except-1 denote.Hole.Carrier.out denote.Hole.Carrier.shown
except-few e = lays-Except (family Bool Bool Bool) (steps Bool Bool Bool action_few except_few statement_few) e ∙ all-mapped has_few (out-Except e).body

-- ---- parts

-- the other statements of a block
pub rest-few : (s : Statement) (ss : List Statement) → HasFew (s ∷ ss) → HasFew ss
rest-few s ss h = (and_parts (has_few s) (list_all has_few ss) h).1

-- the body of the first except
pub caught-few : (e : Except) (es : List Except) → HasFewExcepts (e ∷ es) → HasFew (out-Except e).body
caught-few e es h = sym (except-few e) ∙ (and_parts (has_few_except e) (list_all has_few_except es) h).0

-- the other excepts
pub others-few : (e : Except) (es : List Except) → HasFewExcepts (e ∷ es) → HasFewExcepts es
others-few e es h = (and_parts (has_few_except e) (list_all has_few_except es) h).1

few-count : (n : ℕ) → nat_le n MOST_PARAMETERS ≡ true → n ≤ MOST_PARAMETERS
few-count n h = grind (arith, nat_tests)

arguments-few : (g : Giving) → gives_few g ≡ true → HasFewArguments g
arguments-few (Giving.Spawn f es) h = few-count (length es) h
arguments-few (Giving.SpawnLater ms f es) h = few-count (length es) h
arguments-few (Giving.New f es) h = few-count (length es) h
arguments-few (Giving.GroupSpawn x f es) h = few-count (length es) h
arguments-few g h = tt

form-few : (form : Action-F Action Except Statement) → has_few_form form ≡ true → HasFewParts form
form-few (Action-F.Command x) h = tt
form-few (Action-F.Giving target g) h = arguments-few g h
form-few (Action-F.If e ss None) h = ((and_parts (list_all has_few ss) true h).0, refl)
form-few (Action-F.If e ss (Some others)) h = and_parts (list_all has_few ss) (list_all has_few others) h
form-few (Action-F.While e ss) h = h
form-few (Action-F.Try ss es None) h =
    let first = and_parts (list_all has_few ss) (list_all has_few_except es) (and_parts (list_all has_few ss && list_all has_few_except es) true h).0 in
    (first.0, first.1, refl)
form-few (Action-F.Try ss es (Some others)) h =
    let both = and_parts (list_all has_few ss && list_all has_few_except es) (list_all has_few others) h in
    let first = and_parts (list_all has_few ss) (list_all has_few_except es) both.0 in
    (first.0, first.1, both.1)
form-few (Action-F.Timeout ms silent ss) h = h

-- the first statement of a block, by its form
pub head-few : (s : Statement) (ss : List Statement) → HasFew (s ∷ ss) → HasFewParts (out-Action (out-Statement s).action)
head-few s ss h =
    form-few (out-Action (out-Statement s).action)
    (sym (action-few (out-Statement s).action) ∙ sym (statement-out s) ∙ (and_parts (has_few s) (list_all has_few ss) h).0)

-- ---- functions

-- what is found of a list passes its test
pub found : (fs : List Function) (n : ℕ) (f : Function) → slice_get fs n ≡ Some f → list_all has_few_function fs ≡ true → has_few_function f ≡ true
found [] n f e h = absurd (cc e)
found (g ∷ fs) zero f e h =
    let same : g ≡ f = cc e in subst (λ (k : Function). has_few_function k ≡ true) same (and_parts (has_few_function g) (list_all has_few_function fs) h).0
found (g ∷ fs) (suc n) f e h = found fs n f e (and_parts (has_few_function g) (list_all has_few_function fs) h).1

-- the function of a number, also where there is none
pub function-at-few : (c : Scenario) (n : ℕ) → HasFewCalls c → HasFew (unwrap_or (slice_get c.functions n) no_function).body
function-at-few c n h = by (slice_get c.functions n) refl
  where
    by : (o : Option Function) → slice_get c.functions n ≡ o → HasFew (unwrap_or o no_function).body
    by None e = refl
    by (Some f) e = found c.functions n f e h
