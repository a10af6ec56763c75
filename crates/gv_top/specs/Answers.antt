-- What the call answers: its status, what it writes to out, and its line on err.
use Rattle.std.specs.Prelude.{◌≡◌, ℕ, ◌+◌, if◌then◌else◌, List, [], ◌++◌, Some, codes, ◌⊎◌}
use Rattle.trace_text.specs.Line.{text_of}
use Rattle.gv_values.specs.Texts.{decimal}
use Rattle.gv_values.specs.declared.job.Answer.{Answer as Given}
use Rattle.scenario_tree.specs.declared.tree.Scenario.{Scenario}
use Rattle.scenario_grammar.specs.declared.place.Place.{Place}
use Rattle.scenario_grammar.specs.Printed.{printed}
use Rattle.scenario_grammar.specs.Reason.{reason_text}
use Rattle.wsgi_core.specs.Answer.{Sent}
use Rattle.run_command.specs.Running.{run_of}
use Rattle.run_command.specs.Storming.{IsStorm}
use Rattle.gv_top.specs.Storming.{storm_run, summary}
use Rattle.command_words.specs.declared.command.TextCommand.{TextCommand}
use Rattle.command_words.specs.declared.command.TextCommand.TheVariants.{Run, Format}
use Rattle.machine.specs.Run.{Ran, End}
use Rattle.machine.specs.Status.{status, err_line, line_of}
use Rattle.scenario_grammar.specs.Place.{place}
use Rattle.scenario_grammar.specs.Spells.{Spells}
use Rattle.scenario_rules.specs.Rules.{IsWellFormed, place_of}
use Rattle.scenario_grammar.specs.declared.limits.TheConstants.{MOST_LONG_TEXT}

-- a line on err
abbrev pub line : List ℕ → List ℕ
line text = line_of (Some text)

-- a run that is answered to its end never asks in vain; one that asks was broken off
abbrev pub status_of : End → ℕ
status_of (End.Stopped cause) = status cause
status_of End.Asking = 7

abbrev pub err_of : End → List ℕ
err_of (End.Stopped cause) = err_line cause
err_of End.Asking = []

pub record Answer : Type 0 where
  pub status : ℕ
  pub out : List ℕ
  pub err : List ℕ

-- a line on err alone
abbrev pub on_err : ℕ → List ℕ → Answer
on_err status text = record { status = status; out = []; err = line text }

-- the words name no command
abbrev pub usage : Answer
usage = on_err 2 (codes "usage: gvr run, fmt, wsgi, serve, storm or verify")

-- a line of the input, with a reason by its number and its text
abbrev pub place_text : ℕ → ℕ → List ℕ → List ℕ
place_text line reason text = codes "line " ++ decimal line ++ codes ": reason " ++ decimal reason ++ codes ": " ++ text

-- the text is refused at this place
abbrev pub refused_answer : Place → Answer
refused_answer place = on_err 3 (place_text place.line place.reason (reason_text place.reason))

-- the printed form of the scenario
abbrev pub formatted : Scenario → Answer
formatted s = record { status = 0; out = printed s; err = [] }

abbrev pub answer_of_run : Ran → Answer
answer_of_run r = record { status = status_of r.end; out = text_of r.lines; err = err_of r.end }

-- what is answered to a well-formed scenario, where native workers gave these answers
abbrev pub answer_to_scenario : TextCommand → List Given → Scenario → Answer
answer_to_scenario (Run options) given s = answer_of_run (run_of options given s)
answer_to_scenario Format given s = formatted s

-- The bytes are refused at this place: by the grammar, or since the scenario that they spell breaks a rule there.
abbrev pub IsRefusedAt : List ℕ → Place → Type 0
IsRefusedAt bytes p = (place bytes ≡ Some p) ⊎ ((s : Scenario) × Spells s bytes × (place_of s ≡ Some p))

-- what is answered to a text: a well-formed scenario is run or printed, and any other bytes are refused at their place
unfoldable pub IsTextAnswer : TextCommand → List Given → List ℕ → Answer → Type 0
IsTextAnswer command given bytes a =
    ((s : Scenario) × Spells s bytes × IsWellFormed s × (a ≡ answer_to_scenario command given s)) ⊎ ((p : Place) × IsRefusedAt bytes p × (a ≡ refused_answer p))

-- what is answered to this run as the storm of n greenlets: the summary, and the status and the line of its end
abbrev pub answer_of_storm : ℕ → Ran → Answer
answer_of_storm n r = record { status = status_of r.end; out = summary n r; err = err_of r.end }

-- what `storm` answers: the scenario of its text is run
abbrev pub IsStormAnswer : ℕ → Answer → Type 0
IsStormAnswer n a = (s : Scenario) × IsStorm n s × (a ≡ answer_of_storm n (storm_run s))

-- what `wsgi` answers where a session sent this: one that did not close met the limit of the connection
abbrev pub answer_of_session : Sent → Answer
answer_of_session s = record {
  status = if s.closes then 0 else 8;
  out = s.bytes;
  err = if s.closes then [] else line (codes "limit of the connection");
}

-- the most bytes of a text that are read: one more than any may have
abbrev pub most_read : ℕ
most_read = MOST_LONG_TEXT + 1

-- the port of a session whose bytes come from the input
abbrev pub no_port : ℕ
no_port = 0

abbrev pub read_fault_line : List ℕ
read_fault_line = line (codes "read fault")

abbrev pub write_fault_line : List ℕ
write_fault_line = line (codes "write fault")

abbrev pub memory_line : List ℕ
memory_line = line (codes "out of memory")

abbrev pub network_fault_line : List ℕ
network_fault_line = line (codes "network fault")
