-- The law on the block lines of a run. This project's own.
use Rattle.std.specs.Prelude.{◌≡◌, ℕ, filter}
use Rattle.std.specs.List.{flat_map}
use Rattle.scenario_tree.specs.declared.tree.Scenario.{Scenario}
use Rattle.machine.specs.Blocked.{blocked_states}
use Rattle.machine.specs.Run.{Source, run_from}
use Rattle.machine_blocks.specs.Blocks.{block_lines, is_block}

-- the block lines of a run are those that are said at its blocked states, in order
abbrev pub BlocksAreTold : Type 0
BlocksAreTold = (c : Scenario) (source : Source) (turns moves : ℕ) →
    filter is_block (run_from source turns moves c).lines ≡ flat_map block_lines (blocked_states source turns moves c)
