-- What a part of a statement says, with all that is inside it.
use Rattle.std.specs.Prelude.{ℕ, List}
use Rattle.std.specs.List.{flat_map}
use Rattle.scenario_tree.specs.declared.tree.Action.{Action}
use Rattle.scenario_tree.specs.declared.tree.Except.{Except}
use Rattle.scenario_tree.specs.declared.tree.Action.TheBlock.{laid-Action, laid-Except}
use Rattle.scenario_tree.specs.declared.tree.Action.TheFolds.{family as statement_family, steps as statement_steps}
use Rattle.scenario_rules.specs.declared.mention.Mention.{Mention}
use Rattle.scenario_rules.specs.Mention.{Part, action_says, except_says, statement_says}

-- the same of what stands on the line of a statement
unfoldable pub action_mentions : Action → ℕ → Part
action_mentions = laid-Action (statement_family (ℕ → Part) Part Part) (statement_steps (ℕ → Part) Part Part action_says except_says statement_says)

-- the same of an except
unfoldable pub except_mentions : Except → Part
except_mentions = laid-Except (statement_family (ℕ → Part) Part Part) (statement_steps (ℕ → Part) Part Part action_says except_says statement_says)

-- the excepts of a try
abbrev pub handler_mentions : ℕ → List Except → List Mention
handler_mentions left es = flat_map (λ e. except_mentions e left) es
