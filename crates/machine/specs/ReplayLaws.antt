-- How runs under different answers agree. This project's own.
use Rattle.std.specs.Prelude.{◌≡◌, ℕ, List, ◌++◌}
use Rattle.gv_values.specs.declared.job.Answer.{Answer}
use Rattle.world_rules.specs.Legal.{answers_of}
use Rattle.scenario_tree.specs.declared.tree.Scenario.{Scenario}
use Rattle.machine.specs.Run.{run, script_run, GoOnFrom}

-- each run under the rule of a script is the run under the answers that the rule gave
abbrev pub ScriptsReplay : Type 0
ScriptsReplay = (c : Scenario) (turns moves tick : ℕ) → run c turns moves (answers_of (script_run c turns moves tick).log) ≡ script_run c turns moves tick

-- more answers only lengthen the lines
abbrev pub AnswersLengthen : Type 0
AnswersLengthen =
    (c : Scenario) (turns moves : ℕ) (answers more : List Answer) → GoOnFrom (run c turns moves (answers ++ more)).lines (run c turns moves answers).lines
