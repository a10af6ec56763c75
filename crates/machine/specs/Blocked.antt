-- The states at the block lines of a run.
use Rattle.std.specs.Prelude.{ℕ, List}
use Rattle.machine.specs.State.{State}
use Rattle.machine.specs.Run.{Source, run_from}
use Rattle.scenario_tree.specs.declared.tree.Scenario.{Scenario}

-- the states at the block lines of the run
abbrev pub blocked_states : Source → ℕ → ℕ → Scenario → List State
blocked_states source turns moves c = (run_from source turns moves c).blocked
