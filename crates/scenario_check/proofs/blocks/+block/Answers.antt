use Rattle.std.proofs.Common.{ap, sym, ◌∙◌, ◌++◌}
use Rattle.scenario_tree.specs.declared.tree.Action.TheVariants as A
use Rattle.scenario_rules.specs.Mention.{block_mentions, on, timeout_says}
use Rattle.scenario_rules.specs.Layers.{action_mentions}
use Rattle.scenario_rules.proofs.Layers.{except_out, if_mentions, else_mentions, while_mentions, try_mentions, finally_mentions, timeout_mentions}
use Rattle.scenario_check.proofs.Appending.{two_added, three_added}
use Rattle.scenario_check.proofs.blocks.+block.Goals as goal

pub say_action-returns-in_ok-say_block-in-While : goal.say_action-returns-in_ok-say_block-in-While
say_action-returns-in_ok-say_block-in-While t c =
    two_added _ _ _ _ _ _ (ap (λ a. action_mentions a c.args.line c.args.left) c.in-While.is ∙ while_mentions _ _ _ _) c.in_ok-say_expression-in-While.ensures c.in_ok-say_block-in-While.ensures

pub say_action-returns-in_ok-say_block-in-Timeout : goal.say_action-returns-in_ok-say_block-in-Timeout
say_action-returns-in_ok-say_block-in-Timeout t c =
    two_added _ _ _ _ _ _ (ap (λ a. action_mentions a c.args.line c.args.left) c.in-Timeout.is ∙ timeout_mentions c.in-Timeout.field-0 c.in-Timeout.field-1 c.in-Timeout.body c.args.line c.args.left
    ∙ ap (λ n. on c.args.line (timeout_says c.args.left) ++ block_mentions n c.in-Timeout.body) (sym c.saturating_sub.ensures)) c.in_ok-say_timeout-in-Timeout.ensures c.in_ok-say_block-in-Timeout.ensures

pub say_except-returns : goal.say_except-returns
say_except-returns t c = two_added _ _ _ _ _ _ (except_out _ _) c.in_ok-say_target.ensures c.in_ok-say_block.ensures

pub say_action-returns-in-None : goal.say_action-returns-in-None
say_action-returns-in-None t c =
    two_added _ _ _ _ _ _
    (ap (λ a. action_mentions a c.args.line c.args.left) (c.in-If.is ∙ ap (λ o. A.If c.in-If.condition c.in-If.then_part o) c.in-None.is) ∙ if_mentions _ _ _ _)
    c.in_ok-say_expression-in-If.ensures c.in_ok-say_block-in-If.ensures

pub say_action-returns-in_ok-say_block-in-Some : goal.say_action-returns-in_ok-say_block-in-Some
say_action-returns-in_ok-say_block-in-Some t c =
    three_added _ _ _ _ _ _ _ _
    (ap (λ a. action_mentions a c.args.line c.args.left) (c.in-If.is ∙ ap (λ o. A.If c.in-If.condition c.in-If.then_part o) c.in-Some.is) ∙ else_mentions _ _ _ _ _)
    c.in_ok-say_expression-in-If.ensures c.in_ok-say_block-in-If.ensures c.in_ok-say_block-in-Some.ensures

pub say_action-returns-in-None-finally : goal.say_action-returns-in-None-finally
say_action-returns-in-None-finally t c =
    two_added _ _ _ _ _ _
    (ap (λ a. action_mentions a c.args.line c.args.left) (c.in-Try.is ∙ ap (λ o. A.Try c.in-Try.body c.in-Try.excepts o) c.in-None-finally.is) ∙ try_mentions _ _ _ _)
    c.in_ok-say_block-in-Try.ensures c.in_ok-say_excepts-in-Try.ensures

pub say_action-returns-in_ok-say_block-in-Some-finally : goal.say_action-returns-in_ok-say_block-in-Some-finally
say_action-returns-in_ok-say_block-in-Some-finally t c =
    three_added _ _ _ _ _ _ _ _
    (ap (λ a. action_mentions a c.args.line c.args.left) (c.in-Try.is ∙ ap (λ o. A.Try c.in-Try.body c.in-Try.excepts o) c.in-Some-finally.is) ∙ finally_mentions _ _ _ _ _)
    c.in_ok-say_block-in-Try.ensures c.in_ok-say_excepts-in-Try.ensures c.in_ok-say_block-in-Some-finally.ensures
