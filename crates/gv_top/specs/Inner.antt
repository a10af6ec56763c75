-- What the functions behind the call say to one another. No clause of a public call cites it.
use Rattle.std.specs.Prelude.{◌≡◌, ◌≢◌, ◌⊎◌, ℕ, Bool, List, Option, Ok, Err}
use Rattle.gv_values.specs.declared.job.Answer.{Answer as Given}
use Rattle.command_words.specs.declared.command.GatewayKind.{GatewayKind}
use Rattle.command_words.specs.declared.command.RunOptions.{RunOptions}
use Rattle.command_words.specs.declared.command.TextCommand.{TextCommand}
use Rattle.scenario_tree.specs.declared.tree.Scenario.{Scenario}
use Rattle.scenario_reading.specs.Judged.{HasReason, judged_text}
use Rattle.world.specs.Outside.{WorldMeaning}
use Rattle.world_rules.specs.declared.question.LogEntry.{LogEntry}
use Rattle.trace_check.specs.Said.{Verification}
use Rattle.wsgi_core.specs.Applications.{App}
use Rattle.wsgi_connection.specs.Connection.{Exchanged}
use Rattle.wsgi_connection.specs.declared.connection.ConnectionEnd.{ConnectionEnd}
use Rattle.gv_top.specs.Answers.{no_port, Answer, answer_to_scenario, refused_answer}
use Rattle.gv_top.specs.Gateway.{answers_by}
use Rattle.run_command.specs.Running.{BeganSo}
use Rattle.gv_top.specs.Running.{RanWith}
use Rattle.gv_top.specs.Status.{verdict_of_connection, verdict_status}
use Rattle.gv_top.specs.declared.status.Conclusion.{Conclusion}
use Rattle.gv_top.specs.declared.status.Failure.{Failure}
use Rattle.gv_top.specs.declared.status.Verdict.{Verdict}
use Rattle.trace_check.specs.declared.verifying.Unverified.{Unverified}
use Rattle.gv_top.specs.Verifying.{unverified, verified}

-- ---- verdicts

-- a refusal has one of the reasons
abbrev pub IsExplained : Verdict → Type 0
IsExplained (Verdict.Did (Conclusion.Refused place)) = HasReason place
IsExplained v = Unit {0}

-- the verdict, or want of memory where it has a line for which there is none; the line of a fault takes none
abbrev pub IsOr : Verdict → Verdict → Type 0
IsOr v w = (w ≡ v) ⊎ ((w ≡ Verdict.Broke Failure.Memory) × (verdict_status v ≢ 0) × (verdict_status v ≢ 4) × (verdict_status v ≢ 5) × (verdict_status v ≢ 10))

-- ---- what was done

-- where the command is a run of the scenario that the bytes spell, native workers ran so
abbrev pub BeganText : Bool → TextCommand → List ℕ → WorldMeaning → WorldMeaning → Option (List ℕ) → Option (List ℕ) → Option (List ℕ) → ℕ → ℕ → Type 0
BeganText waits command bytes before after out0 out1 handed1 faults0 faults1 =
    (options : RunOptions) (s : Scenario) → command ≡ TextCommand.Run options → judged_text bytes ≡ Ok s → BeganSo waits options s before after out0 out1 handed1 faults0 faults1

-- the verdict is the end of the connection that the input and out are, through this gateway and with this application
pub record IsOfConnection (v : Verdict) (gateway : GatewayKind) (app : App) (in0 in1 out0 out1 : Option (List ℕ)) : Type 0 where
  pub end : ConnectionEnd
  pub number : verdict_status v ≡ verdict_status (verdict_of_connection end)
  pub exchanged : Exchanged end (answers_by gateway) app no_port in0 in1 out0 out1

-- what is answered to a text
unfoldable pub answer_to_text : TextCommand → List Given → List ℕ → Answer
answer_to_text command given bytes = elim (judged_text bytes) [ Ok s ↦ answer_to_scenario command given s | Err place ↦ refused_answer place ]

-- where the command is a run of the scenario, it ran so
abbrev pub RanScenarioSo : ℕ → TextCommand → Scenario → WorldMeaning → (List LogEntry → Type 0) → Option (List ℕ) → Option (List ℕ) → Type 0
RanScenarioSo n command s after stands out0 out1 =
    (options : RunOptions) → command ≡ TextCommand.Run options → RanWith n options s after stands out0 out1

-- so where it is one of the scenario that the bytes spell
abbrev pub RanSo : ℕ → TextCommand → List ℕ → WorldMeaning → (List LogEntry → Type 0) → Option (List ℕ) → Option (List ℕ) → Type 0
RanSo n command bytes after stands out0 out1 =
    (s : Scenario) → judged_text bytes ≡ Ok s → RanScenarioSo n command s after stands out0 out1

-- what is answered where a check says this; want of memory is no answer
abbrev pub IsAnswerWhere : Verification → Answer → Type 0
IsAnswerWhere (Ok lines) a = a ≡ verified lines
IsAnswerWhere (Err Unverified.Memory) a = ⊥
IsAnswerWhere (Err refusal) a = a ≡ unverified refusal
