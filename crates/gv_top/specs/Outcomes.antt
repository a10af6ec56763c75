-- When a check of a trace passes, when it fails, and when its input is refused.
use Rattle.std.specs.Prelude.{◌≡◌, ◌<◌, ◌≤◌, ℕ, List, Some, None, length}
use Rattle.command_words.specs.declared.command.TraceCheck.{TraceCheck}
use Rattle.scenario_tree.specs.declared.tree.Scenario.{Scenario}
use Rattle.scenario_grammar.specs.Place.{line_at}
use Rattle.scenario_grammar.specs.Spells.{Spells}
use Rattle.scenario_rules.specs.Rules.{IsWellFormed}
use Rattle.machine.specs.Run.{run}
use Rattle.trace_laws.specs.Check.{IsVerified, IsWrong}
use Rattle.trace_laws.specs.Lawful.{IsLawful, IsLawless, IsUnread}
use Rattle.trace_laws.specs.Parts.{parted}
use Rattle.trace_laws.specs.declared.refusal.Cause.{Cause}
use Rattle.trace_check.specs.Inputs.{end_line}
use Rattle.trace_check.specs.declared.inputs.TheConstants.{MOST_CHECKED}
use Rattle.trace_check.specs.declared.verifying.Unverified.{Unverified}
use Rattle.gv_top.specs.Answers.{IsRefusedAt}

-- not too long: the text of a well-formed scenario, the first line of four equals signs, and behind it the trace
pub record HasTrace (bytes : List ℕ) : Type 0 where
  pub within : length bytes ≤ MOST_CHECKED
  pub text : List ℕ
  pub trace : List ℕ
  pub parts : parted bytes ≡ Some (text, trace)
  pub scenario : Scenario
  pub spells : Spells scenario text
  pub well_formed : IsWellFormed scenario

-- it passes: the trace is the run of the scenario, or its lines meet the laws; and it has so many lines
abbrev pub Passes : TraceCheck → List ℕ → ℕ → Type 0
Passes (TraceCheck.Run turns moves) bytes lines = (t : HasTrace bytes) × IsVerified (run t.scenario turns moves) t.trace lines
Passes TraceCheck.Laws bytes lines = (length bytes ≤ MOST_CHECKED) × IsLawful bytes lines

-- it fails: from this line on the trace is not the run, for this cause; or the line is none, or breaks this law
abbrev pub Fails : TraceCheck → List ℕ → Unverified → Type 0
Fails (TraceCheck.Run turns moves) bytes (Unverified.Wrong line cause) = (t : HasTrace bytes) × IsWrong (run t.scenario turns moves) t.trace line cause
Fails TraceCheck.Laws bytes (Unverified.Wrong line Cause.NotALine) = (length bytes ≤ MOST_CHECKED) × IsUnread bytes line
Fails TraceCheck.Laws bytes (Unverified.Lawless line law) = (length bytes ≤ MOST_CHECKED) × IsLawless bytes line law
Fails check bytes why = ⊥

-- it is refused: it is too long, has no line of four equals signs, or its scenario is refused at this place
abbrev pub Refuses : TraceCheck → List ℕ → Unverified → Type 0
Refuses check bytes (Unverified.Overlong line) = (MOST_CHECKED < length bytes) × (line ≡ line_at MOST_CHECKED bytes)
Refuses (TraceCheck.Run turns moves) bytes (Unverified.Unmarked line) = (length bytes ≤ MOST_CHECKED) × (parted bytes ≡ None) × (line ≡ end_line bytes)
Refuses (TraceCheck.Run turns moves) bytes (Unverified.Refused place) =
    (length bytes ≤ MOST_CHECKED) × ((p : List ℕ × List ℕ) × (parted bytes ≡ Some p) × IsRefusedAt p.0 place)
Refuses check bytes why = ⊥
