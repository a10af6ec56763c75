use Rattle.std.proofs.Common.{◌≡◌, ◌++◌, drop}
use Rattle.scenario_rules.specs.Mention.{block_mentions}
use Rattle.scenario_rules.specs.Layers.{handler_mentions}
use Rattle.scenario_check.proofs.blocks.+block.Given as goal

abbrev pub invariant-say_block-loop-statement : goal.invariant-say_block-loop-statement
invariant-say_block-loop-statement l = l.said ++ block_mentions l.left (drop l.statement-index l.block) ≡ l.fn.said ++ block_mentions l.left l.block

abbrev pub invariant-say_excepts-loop-except : goal.invariant-say_excepts-loop-except
invariant-say_excepts-loop-except l = l.said ++ handler_mentions l.left (drop l.except-index l.handlers) ≡ l.fn.said ++ handler_mentions l.left l.handlers
