-- When a run under answers is the run of a script. This project's own.
use Rattle.std.specs.Prelude.{◌≡◌, ℕ, List, [], ◌++◌}
use Rattle.gv_values.specs.declared.job.Answer.{Answer}
use Rattle.world_rules.specs.declared.question.LogEntry.{LogEntry}
use Rattle.world_rules.specs.Legal.{answers_of}
use Rattle.world_rules.specs.Rules.{Follows, RuleState, start}
use Rattle.scenario_tree.specs.declared.tree.Scenario.{Scenario}
use Rattle.trace_text.specs.declared.line.StopCause.{StopCause}
use Rattle.machine.specs.Run.{GoOnFrom, End, Ran, run, script_run}

-- as far as it goes it is the other: its lines are the first of the other's, and where it stopped it is the other
pub record IsBeginningOf (whole r : Ran) : Type 0 where
  pub lines : GoOnFrom whole.lines r.lines
  pub stopped : (cause : StopCause) → r.end ≡ End.Stopped cause → r ≡ whole

-- Where the log of a run begins with one that follows the rule of a script and has all the answers of the run, the run
-- is that of the script as far as it goes.
abbrev pub FollowersRunScripts : Type 0
FollowersRunScripts =
    (c : Scenario) (turns moves tick : ℕ) (answers : List Answer) (part later : List LogEntry) (t : RuleState) →
    (run c turns moves answers).log ≡ part ++ later → answers_of part ≡ answers → Follows tick (start []) part t →
    IsBeginningOf (script_run c turns moves tick) (run c turns moves answers)
