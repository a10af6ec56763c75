-- What a statement says, by its outermost form.
use Rattle.std.proofs.Common.{◌≡◌, ap, ◌∙◌, ◌++◌, ◌-◌, [], Bool, List, ℕ, Option, Some, None, map, append-nil}
use Rattle.std.proofs.lemmas.List.Folds.{flat_map-map}
use Rattle.gv_values.specs.declared.name.Name.{Name}
use Rattle.scenario_tree.specs.declared.tree.Action.{Action, Action-F, out-Action, map-Action, map_is-Action}
use Rattle.scenario_tree.specs.declared.tree.Action.TheBlock.{lays-Action, lays-Except, lays-Statement, the_family, the_fold, view-Action, shown-the_row-Statement-0, shown-the_row-Except-1}
use Rattle.scenario_tree.specs.declared.tree.Action.TheFolds.{family, steps}
use Rattle.scenario_tree.specs.declared.tree.Action.TheVariants as A
use Rattle.scenario_tree.specs.declared.tree.Command.{Command}
use Rattle.scenario_tree.specs.declared.tree.Except.{Except, out-Except}
use Rattle.scenario_tree.specs.declared.tree.Expression.{Expression}
use Rattle.scenario_tree.specs.declared.tree.Giving.{Giving}
use Rattle.scenario_tree.specs.declared.tree.Statement.{Statement}
use Rattle.scenario_rules.specs.Mention.{Part, on, action_says, block_mentions, command_says, each_part, except_says, expression_says, giving_says, statement_mentions, statement_says, target_says, timeout_says}
use Rattle.scenario_rules.specs.Layers.{action_mentions, except_mentions, handler_mentions}

action_out : (x : Action) → action_mentions x ≡ action_says (map-Action Action Except Statement (ℕ → Part) Part Part action_mentions except_mentions statement_mentions (out-Action x))
unfolding out-Action denote.Hole.Carrier.out action_mentions except_mentions statement_mentions
action_out x =
    lays-Action (family (ℕ → Part) Part Part) (steps (ℕ → Part) Part Part action_says except_says statement_says) x
    ∙ ap action_says (map_is-Action the_family (family (ℕ → Part) Part Part) (the_fold (family (ℕ → Part) Part Part) (steps (ℕ → Part) Part Part action_says except_says statement_says)) (view-Action x))

one_level : (x : Action) (layer : Action-F Action Except Statement) (line left : ℕ) → out-Action x ≡ layer →
    action_mentions x line left ≡ action_says (map-Action Action Except Statement (ℕ → Part) Part Part action_mentions except_mentions statement_mentions layer) line left
one_level x layer line left h =
    ap (λ (f : ℕ → Part). f line left) (action_out x)
    ∙ ap (λ (y : Action-F Action Except Statement). action_says (map-Action Action Except Statement (ℕ → Part) Part Part action_mentions except_mentions statement_mentions y) line left) h

pub statement_out : (s : Statement) (left : ℕ) → statement_mentions s left ≡ action_mentions s.action s.line left
unfolding statement_mentions action_mentions shown-the_row-Statement-0 denote.Hole.Carrier.shown
statement_out s left = ap (λ (f : Part). f left) (lays-Statement (family (ℕ → Part) Part Part) (steps (ℕ → Part) Part Part action_says except_says statement_says) s)

pub in_block : (left : ℕ) (ss : List Statement) → each_part (map statement_mentions ss) left ≡ block_mentions left ss
in_block left ss = flat_map-map (λ (part : Part). part left) statement_mentions ss

pub in_handlers : (left : ℕ) (es : List Except) → each_part (map except_mentions es) left ≡ handler_mentions left es
in_handlers left es = flat_map-map (λ (part : Part). part left) except_mentions es

pub except_out : (e : Except) (left : ℕ) → except_mentions e left ≡ on (out-Except e).line (target_says (out-Except e).name) ++ block_mentions left (out-Except e).body
unfolding except_mentions statement_mentions out-Except shown-the_row-Except-1 denote.Hole.Carrier.out denote.Hole.Carrier.shown
except_out e left =
    ap (λ (f : Part). f left) (lays-Except (family (ℕ → Part) Part Part) (steps (ℕ → Part) Part Part action_says except_says statement_says) e)
    ∙ ap (λ z. on (out-Except e).line (target_says (out-Except e).name) ++ z) (in_block left (out-Except e).body)

pub command_mentions : (c : Command) (line left : ℕ) → action_mentions (A.Command c) line left ≡ on line (command_says c)
command_mentions c line left = one_level (A.Command c) (Action-F.Command c) line left (A.outs-Command c)

pub giving_mentions : (t : Option Name) (g : Giving) (line left : ℕ) → action_mentions (A.Giving t g) line left ≡ on line (target_says t ++ giving_says g)
giving_mentions t g line left = one_level (A.Giving t g) (Action-F.Giving t g) line left (A.outs-Giving t g)

pub while_mentions : (e : Expression) (body : List Statement) (line left : ℕ) → action_mentions (A.While e body) line left ≡ on line (expression_says e) ++ block_mentions left body
while_mentions e body line left = one_level (A.While e body) (Action-F.While e body) line left (A.outs-While e body) ∙ ap (λ z. on line (expression_says e) ++ z) (in_block left body)

pub timeout_mentions : (t : Option ℕ) (silent : Bool) (body : List Statement) (line left : ℕ) →
    action_mentions (A.Timeout t silent body) line left ≡ on line (timeout_says left) ++ block_mentions (left - 1) body
timeout_mentions t silent body line left =
    one_level (A.Timeout t silent body) (Action-F.Timeout t silent body) line left (A.outs-Timeout t silent body) ∙ ap (λ z. on line (timeout_says left) ++ z) (in_block (left - 1) body)

pub if_mentions : (e : Expression) (then_part : List Statement) (line left : ℕ) →
    action_mentions (A.If e then_part None) line left ≡ on line (expression_says e) ++ block_mentions left then_part
if_mentions e then_part line left =
    one_level (A.If e then_part None) (Action-F.If e then_part None) line left (A.outs-If e then_part None)
    ∙ ap (λ z. on line (expression_says e) ++ z ++ []) (in_block left then_part)
    ∙ append-nil (on line (expression_says e) ++ block_mentions left then_part)

pub else_mentions : (e : Expression) (then_part else_part : List Statement) (line left : ℕ) →
    action_mentions (A.If e then_part (Some else_part)) line left ≡ on line (expression_says e) ++ block_mentions left then_part ++ block_mentions left else_part
else_mentions e then_part ss line left =
    one_level (A.If e then_part (Some ss)) (Action-F.If e then_part (Some ss)) line left (A.outs-If e then_part (Some ss))
    ∙ ap (λ z. on line (expression_says e) ++ z ++ each_part (map statement_mentions ss) left) (in_block left then_part)
    ∙ ap (λ z. on line (expression_says e) ++ block_mentions left then_part ++ z) (in_block left ss)

pub try_mentions : (body : List Statement) (es : List Except) (line left : ℕ) →
    action_mentions (A.Try body es None) line left ≡ block_mentions left body ++ handler_mentions left es
try_mentions body es line left =
    one_level (A.Try body es None) (Action-F.Try body es None) line left (A.outs-Try body es None)
    ∙ ap (λ z. z ++ each_part (map except_mentions es) left ++ []) (in_block left body)
    ∙ ap (λ z. block_mentions left body ++ z ++ []) (in_handlers left es)
    ∙ append-nil (block_mentions left body ++ handler_mentions left es)

pub finally_mentions : (body : List Statement) (es : List Except) (finally : List Statement) (line left : ℕ) →
    action_mentions (A.Try body es (Some finally)) line left ≡ block_mentions left body ++ handler_mentions left es ++ block_mentions left finally
finally_mentions body es ss line left =
    one_level (A.Try body es (Some ss)) (Action-F.Try body es (Some ss)) line left (A.outs-Try body es (Some ss))
    ∙ ap (λ z. z ++ each_part (map except_mentions es) left ++ each_part (map statement_mentions ss) left) (in_block left body)
    ∙ ap (λ z. block_mentions left body ++ z ++ each_part (map statement_mentions ss) left) (in_handlers left es)
    ∙ ap (λ z. block_mentions left body ++ handler_mentions left es ++ z) (in_block left ss)
