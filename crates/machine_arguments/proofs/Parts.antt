-- Statements whose lines make calls of few arguments have few.
use Rattle.std.proofs.Common.{◌≡◌, refl, ap, ◌∙◌, sym, subst, ℕ, Bool, true, List, [], ◌∷◌, ◌++◌, length, map, Option, Some, None}
use Rattle.std.proofs.lemmas.Bool.{and_from, and_parts}
use Rattle.std.proofs.lemmas.List.Folds.{list_all-append}
use Rattle.std.specs.Prelude.{nat_le, ◌-◌}
use Rattle.std.specs.List.{list_all}
use Rattle.gv_values.specs.declared.name.Name.{Name}
use Rattle.scenario_tree.specs.declared.tree.Action.{Action, Action-F, ind-Action, map-Action, out-Action, roll-Action}
use Rattle.scenario_tree.specs.declared.tree.Action.TheVariants as A
use Rattle.scenario_tree.specs.declared.tree.Action.TheViews as v
use Rattle.scenario_tree.specs.declared.tree.Command.{Command}
use Rattle.scenario_tree.specs.declared.tree.Except.{Except, Except-F, out-Except, out-roll-Except, roll-Except}
use Rattle.scenario_tree.specs.declared.tree.Expression.{Expression}
use Rattle.scenario_tree.specs.declared.tree.Giving.{Giving}
use Rattle.scenario_tree.specs.declared.tree.Statement.{Statement, Statement-F, roll-Statement}
use Rattle.scenario_tree.specs.declared.limits.TheConstants.{MOST_PARAMETERS}
use Rattle.scenario_rules.specs.declared.mention.Mention.{Mention}
use Rattle.scenario_rules.specs.declared.mention.Says.{Says}
use Rattle.scenario_rules.specs.declared.mention.Says.TheVariants as says
use Rattle.scenario_rules.specs.Mention.{all_say, block_mentions, expression_says, giving_says, on, statement_mentions, target_says, timeout_says}
use Rattle.scenario_rules.specs.Layers.{action_mentions, except_mentions, handler_mentions}
use Rattle.scenario_rules.proofs.Layers as words
use Rattle.body_blocks.specs.Few.{HasFew, HasFewExcepts, gives_few, has_few, has_few_action, has_few_except}
use Rattle.body_values.proofs.Few.{action-few, except-few, has_few_form, statement-out}

-- ---- lines

-- a call that has no more arguments than a function may have parameters
abbrev pub is_few : Says → Bool
is_few (says.Calls n x) = nat_le n MOST_PARAMETERS
is_few word = true

-- so is each call that these lines make
abbrev pub are_few : List Mention → Bool
are_few ms = list_all (λ (m : Mention). is_few m.says) ms

abbrev pub AreFew : List Mention → Type 0
AreFew ms = are_few ms ≡ true

-- so it is in a part of them
few-left : (ms ns : List Mention) → AreFew (ms ++ ns) → AreFew ms
few-left ms ns h = (and_parts (are_few ms) (are_few ns) (sym (list_all-append (λ (m : Mention). is_few m.says) ms ns) ∙ h)).0

pub few-right : (ms ns : List Mention) → AreFew (ms ++ ns) → AreFew ns
few-right ms ns h = (and_parts (are_few ms) (are_few ns) (sym (list_all-append (λ (m : Mention). is_few m.says) ms ns) ∙ h)).1

-- ---- what has to be shown of a part, where so many timeout blocks more may be opened

abbrev StatementFew : Statement → Type 0
StatementFew s = (room : ℕ) → AreFew (statement_mentions s room) → has_few s ≡ true

abbrev ActionFew : Action → Type 0
ActionFew x = (line room : ℕ) → AreFew (action_mentions x line room) → has_few_action x ≡ true

abbrev ExceptFew : Except → Type 0
ExceptFew e = (room : ℕ) → AreFew (except_mentions e room) → has_few_except e ≡ true

abbrev BlockFew : List Statement → Type 0
BlockFew ss = (room : ℕ) → AreFew (block_mentions room ss) → HasFew ss

abbrev ExceptsFew : List Except → Type 0
ExceptsFew es = (room : ℕ) → AreFew (handler_mentions room es) → HasFewExcepts es

abbrev BlockFewIfAny : Option (List Statement) → Type 0
BlockFewIfAny None = Unit {0}
BlockFewIfAny (Some ss) = BlockFew ss

-- what is known of the parts of a form
abbrev PartsFew : Action-F Action Except Statement → Type 0
PartsFew (Action-F.Command x) = Unit {0}
PartsFew (Action-F.Giving target x) = Unit {0}
PartsFew (Action-F.If e then_part else_part) = BlockFew then_part × BlockFewIfAny else_part
PartsFew (Action-F.While e body) = BlockFew body
PartsFew (Action-F.Try body excepts finally) = BlockFew body × ExceptsFew excepts × BlockFewIfAny finally
PartsFew (Action-F.Timeout after silent body) = BlockFew body

-- ---- forms

few : (x : Action) (form : Action-F Action Except Statement) → out-Action x ≡ form → has_few_form form ≡ true → has_few_action x ≡ true
few x form e h = action-few x ∙ ap has_few_form e ∙ h

gives : (g : Giving) (line : ℕ) → AreFew (on line (giving_says g)) → gives_few g ≡ true
gives (Giving.Spawn f es) line h = (and_parts (nat_le (length es) MOST_PARAMETERS) (are_few (on line (all_say es))) h).0
gives (Giving.SpawnLater ms f es) line h = (and_parts (nat_le (length es) MOST_PARAMETERS) (are_few (on line (all_say es))) h).0
gives (Giving.New f es) line h = (and_parts (nat_le (length es) MOST_PARAMETERS) (are_few (on line (all_say es))) h).0
gives (Giving.GroupSpawn x f es) line h = (and_parts (nat_le (length es) MOST_PARAMETERS) (are_few (on line (all_say es))) h).0
gives g line h = refl

without-target : (target : Option Name) (g : Giving) (line : ℕ) → AreFew (on line (target_says target ++ giving_says g)) → AreFew (on line (giving_says g))
without-target None g line h = h
without-target (Some x) g line h = h

giving : (target : Option Name) (g : Giving) → ActionFew (A.Giving target g)
giving target g line room h =
    few (A.Giving target g) (Action-F.Giving target g) (A.outs-Giving target g)
    (gives g line (without-target target g line (subst AreFew (words.giving_mentions target g line room) h)))

if_alone : (e : Expression) (ss : List Statement) → BlockFew ss → ActionFew (A.If e ss None)
if_alone e ss r line room h =
    let said = subst AreFew (words.if_mentions e ss line room) h in
    few (A.If e ss None) (Action-F.If e ss None) (A.outs-If e ss None)
    (and_from (list_all has_few ss) true (r room (few-right (on line (expression_says e)) (block_mentions room ss) said)) refl)

if_else : (e : Expression) (ss others : List Statement) → BlockFew ss → BlockFew others → ActionFew (A.If e ss (Some others))
if_else e ss others r q line room h =
    let said = subst AreFew (words.else_mentions e ss others line room) h in
    let first = few-left (on line (expression_says e) ++ block_mentions room ss) (block_mentions room others) said in
    few (A.If e ss (Some others)) (Action-F.If e ss (Some others)) (A.outs-If e ss (Some others))
    (and_from (list_all has_few ss) (list_all has_few others) (r room (few-right (on line (expression_says e)) (block_mentions room ss) first))
    (q room (few-right (on line (expression_says e) ++ block_mentions room ss) (block_mentions room others) said)))

while : (e : Expression) (ss : List Statement) → BlockFew ss → ActionFew (A.While e ss)
while e ss r line room h =
    few (A.While e ss) (Action-F.While e ss) (A.outs-While e ss)
    (r room (few-right (on line (expression_says e)) (block_mentions room ss) (subst AreFew (words.while_mentions e ss line room) h)))

try_alone : (ss : List Statement) (es : List Except) → BlockFew ss → ExceptsFew es → ActionFew (A.Try ss es None)
try_alone ss es r q line room h =
    let said = subst AreFew (words.try_mentions ss es line room) h in
    few (A.Try ss es None) (Action-F.Try ss es None) (A.outs-Try ss es None)
    (and_from _ true
    (and_from (list_all has_few ss) (list_all has_few_except es) (r room (few-left (block_mentions room ss) (handler_mentions room es) said))
    (q room (few-right (block_mentions room ss) (handler_mentions room es) said))) refl)

try_finally : (ss : List Statement) (es : List Except) (others : List Statement) → BlockFew ss → ExceptsFew es → BlockFew others → ActionFew (A.Try ss es (Some others))
try_finally ss es others r q t line room h =
    let said = subst AreFew (words.finally_mentions ss es others line room) h in
    let first = few-left (block_mentions room ss ++ handler_mentions room es) (block_mentions room others) said in
    few (A.Try ss es (Some others)) (Action-F.Try ss es (Some others)) (A.outs-Try ss es (Some others))
    (and_from _ (list_all has_few others)
    (and_from (list_all has_few ss) (list_all has_few_except es) (r room (few-left (block_mentions room ss) (handler_mentions room es) first))
    (q room (few-right (block_mentions room ss) (handler_mentions room es) first)))
    (t room (few-right (block_mentions room ss ++ handler_mentions room es) (block_mentions room others) said)))

timeout : (after : Option ℕ) (silent : Bool) (ss : List Statement) → BlockFew ss → ActionFew (A.Timeout after silent ss)
timeout after silent ss r line room h =
    few (A.Timeout after silent ss) (Action-F.Timeout after silent ss) (A.outs-Timeout after silent ss)
    (r (room - 1) (few-right (on line (timeout_says room)) (block_mentions (room - 1) ss) (subst AreFew (words.timeout_mentions after silent ss line room) h)))

form : (x : Action-F Action Except Statement) → PartsFew x → ActionFew (roll-Action x)
form (Action-F.Command x) p = subst ActionFew (sym (v.rolls-Command x)) (λ line room h. few (A.Command x) (Action-F.Command x) (A.outs-Command x) refl)
form (Action-F.Giving target x) p = subst ActionFew (sym (v.rolls-Giving target x)) (giving target x)
form (Action-F.If e ss None) p = subst ActionFew (sym (v.rolls-If e ss None)) (if_alone e ss p.0)
form (Action-F.If e ss (Some others)) p = subst ActionFew (sym (v.rolls-If e ss (Some others))) (if_else e ss others p.0 p.1)
form (Action-F.While e ss) p = subst ActionFew (sym (v.rolls-While e ss)) (while e ss p)
form (Action-F.Try ss es None) p = subst ActionFew (sym (v.rolls-Try ss es None)) (try_alone ss es p.0 p.1)
form (Action-F.Try ss es (Some others)) p = subst ActionFew (sym (v.rolls-Try ss es (Some others))) (try_finally ss es others p.0 p.1 p.2)
form (Action-F.Timeout after silent ss) p = subst ActionFew (sym (v.rolls-Timeout after silent ss)) (timeout after silent ss p)

except : (e : Except) → BlockFew (out-Except e).body → ExceptFew e
except e r room h =
    except-few e
    ∙ r room (few-right (on (out-Except e).line (target_says (out-Except e).name)) (block_mentions room (out-Except e).body) (subst AreFew (words.except_out e room) h))

statement : (s : Statement) → ActionFew s.action → StatementFew s
statement s r room h = statement-out s ∙ r s.line room (subst AreFew (words.statement_out s room) h)

-- ---- all of them

-- a part with what was shown of it
abbrev AnAction : Type 0
AnAction = (x : Action) × ActionFew x

abbrev AnExcept : Type 0
AnExcept = (x : Except) × ExceptFew x

abbrev AStatement : Type 0
AStatement = (s : Statement) × StatementFew s

block : (es : List AStatement) → BlockFew (map (λ e. e.0) es)
block [] room h = refl
block (e ∷ es) room h =
    and_from (has_few e.0) _ (e.1 room (few-left (statement_mentions e.0 room) _ h)) (block es room (few-right (statement_mentions e.0 room) _ h))

excepts : (es : List AnExcept) → ExceptsFew (map (λ e. e.0) es)
excepts [] room h = refl
excepts (e ∷ es) room h =
    and_from (has_few_except e.0) _ (e.1 room (few-left (except_mentions e.0 room) _ h)) (excepts es room (few-right (except_mentions e.0 room) _ h))

abbrev without_proofs : Action-F AnAction AnExcept AStatement → Action-F Action Except Statement
without_proofs x = map-Action AnAction AnExcept AStatement Action Except Statement (λ e. e.0) (λ e. e.0) (λ e. e.0) x

parts : (x : Action-F AnAction AnExcept AStatement) → PartsFew (without_proofs x)
parts (Action-F.Command x) = tt
parts (Action-F.Giving target x) = tt
parts (Action-F.If e ss None) = (block ss, tt)
parts (Action-F.If e ss (Some others)) = (block ss, block others)
parts (Action-F.While e ss) = block ss
parts (Action-F.Try ss es None) = (block ss, excepts es, tt)
parts (Action-F.Try ss es (Some others)) = (block ss, excepts es, block others)
parts (Action-F.Timeout after silent ss) = block ss

except-layer : (x : Except-F Action Except Statement) → BlockFew x.body → ExceptFew (roll-Except x)
except-layer x r = except (roll-Except x) (subst (λ (y : Except-F Action Except Statement). BlockFew y.body) (sym (out-roll-Except x)) r)

every-action : (x : Action) → ActionFew x
every-action = ind-Action ActionFew ExceptFew StatementFew
    (λ x y is. subst (λ z. ActionFew (roll-Action z)) is (form (without_proofs y) (parts y)))
    (λ x y is. except-layer x (subst (λ (z : Except-F Action Except Statement). BlockFew z.body) is (block y.body)))
    (λ x y is. statement (roll-Statement x) (subst (λ (z : Statement-F Action Except Statement). ActionFew z.action) is y.action.1))

-- the statements of a block
pub every-block : (ss : List Statement) → BlockFew ss
every-block [] room h = refl
every-block (s ∷ ss) room h =
    and_from (has_few s) _ (statement s (every-action s.action) room (few-left (statement_mentions s room) _ h)) (every-block ss room (few-right (statement_mentions s room) _ h))
