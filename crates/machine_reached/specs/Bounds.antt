-- How many items stand at most wherever the hub comes to stand in a run. This project's own.
use Rattle.std.specs.Prelude.{◌≤◌, ◌+◌, ◌*◌, ℕ, length}
use Rattle.scenario_tree.specs.declared.tree.Scenario.{Scenario}
use Rattle.scenario_rules.specs.Rules.{IsWellFormed}
use Rattle.machine.specs.State.{State}
use Rattle.machine.specs.Landing.{Next}
use Rattle.machine.specs.Request.{kills_standing}
use Rattle.machine.specs.Run.{Source, run_from}
use Rattle.machine_trace_laws.specs.Reached.{Reached, state_of_next}
use Rattle.machine.specs.declared.limits.TheConstants.{MOST_KILLS}

-- the items are at most eleven for each greenlet, one for each link that was made and one for each kill that is not
-- delivered, and of these only so many stand
pub record IsBounded (s : State) : Type 0 where
  pub items : length s.items ≤ 11 * length s.greenlets + s.links + kills_standing s
  pub kills : kills_standing s ≤ MOST_KILLS

-- so it is wherever the hub comes to stand, whatever is answered
abbrev pub ItemsBounded : Type 0
ItemsBounded = (c : Scenario) (next : Next) → IsWellFormed c → Reached c next → IsBounded (state_of_next next)

-- and so it is in the last state of a run, whatever its budgets and its answers
abbrev pub LastBounded : Type 0
LastBounded = (c : Scenario) (source : Source) (turns moves : ℕ) → IsWellFormed c → IsBounded (run_from source turns moves c).state
