-- The laws of a trace and the quiet states, over whole runs. This project's own.
use Rattle.std.specs.Prelude.{◌≡◌, ℕ, true, []}
use Rattle.std.specs.List.{list_all}
use Rattle.world_rules.specs.Legal.{AreLegal}
use Rattle.scenario_tree.specs.declared.tree.Scenario.{Scenario}
use Rattle.scenario_rules.specs.Rules.{IsWellFormed}
use Rattle.machine.specs.TraceLaws.{meets_laws}
use Rattle.machine.specs.Quiet.{is_quiet}
use Rattle.machine.specs.Blocked.{blocked_states}
use Rattle.machine.specs.Run.{Source, run_from, script_run}

-- the lines of a run under legal answers meet the laws
abbrev pub RunsLawfully : Type 0
RunsLawfully = (c : Scenario) (source : Source) (turns moves : ℕ) → IsWellFormed c → AreLegal [] [] (run_from source turns moves c).log →
    meets_laws (run_from source turns moves c).lines ≡ true

-- at each block line the state is quiet, whatever is answered
abbrev pub BlocksQuietly : Type 0
BlocksQuietly = (c : Scenario) (source : Source) (turns moves : ℕ) → IsWellFormed c → list_all is_quiet (blocked_states source turns moves c) ≡ true

-- under the rule of a script each answer is legal, so the laws hold with no premise on answers
pub record RunsLawfullyByScript (c : Scenario) (turns moves tick : ℕ) : Type 0 where
  pub legal : AreLegal [] [] (script_run c turns moves tick).log
  pub lawful : meets_laws (script_run c turns moves tick).lines ≡ true

abbrev pub ScriptsRunLawfully : Type 0
ScriptsRunLawfully = (c : Scenario) (turns moves tick : ℕ) → IsWellFormed c → RunsLawfullyByScript c turns moves tick
