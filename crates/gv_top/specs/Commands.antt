-- What the call leaves behind, by the command that the words name.
use Rattle.std.specs.Prelude.{◌≡◌, ◌≢◌, ◌⊎◌, ℕ, List, Option, Some, None, drop, take}
use Rattle.gv_values.specs.Counts.{HasRisen}
use Rattle.gv_io.specs.Streams.{appended}
use Rattle.command_words.specs.declared.command.GatewayKind.{GatewayKind}
use Rattle.command_words.specs.declared.command.RunOptions.{RunOptions}
use Rattle.command_words.specs.declared.command.TextCommand.{TextCommand}
use Rattle.scenario_tree.specs.declared.tree.Scenario.{Scenario}
use Rattle.scenario_grammar.specs.declared.place.Place.{Place}
use Rattle.scenario_grammar.specs.Spells.{Spells}
use Rattle.scenario_rules.specs.Rules.{IsWellFormed}
use Rattle.world.specs.Outside.{WorldMeaning}
use Rattle.world_rules.specs.declared.question.LogEntry.{LogEntry}
use Rattle.wsgi_core.specs.Applications.{App}
use Rattle.gv_top.specs.declared.words.OfflineCommand.{OfflineCommand}
use Rattle.gv_top.specs.Answers.{answer_of_run, answer_of_storm, formatted, memory_line, most_read, read_fault_line, refused_answer, IsRefusedAt}
use Rattle.run_command.specs.Running.{run_of}
use Rattle.gv_top.specs.Running.{RanWith}
use Rattle.run_command.specs.Storming.{IsStorm}
use Rattle.gv_top.specs.Storming.{storm_run}
use Rattle.machine.specs.Run.{End}
use Rattle.gv_top.specs.Top.{AnswersConnection, BlocksAtQuiet, Ended, FailsToWrite, HasLawfulLines, IsAnswered, Stream}

-- The claim: what `run` leaves, where the input is told and is the text of this well-formed scenario.
pub record Headline (status : ℕ) (options : RunOptions) (s : Scenario) (after : WorldMeaning) (stands : List LogEntry → Type 0) (out err : Stream) : Type 0 where
  -- Out has the text of the lines of the one run, and the status and the line on err are those of its end; but with the
  -- statuses 4, 5 and 7 out has a beginning of that text. Without native workers it is the run under the rule of a
  -- script, and with them the run under the answers that they gave.
  pub trace : IsAnswered status (answer_of_run (run_of options after.answers s)) out.before out.after err.before err.after
  -- With every other status it stopped for a cause.
  pub stops : status ≢ 4 → status ≢ 5 → status ≢ 7 → (run_of options after.answers s).end ≢ End.Asking
  -- Its lines meet the laws of a trace, and native workers, where the words ask for them, did its jobs.
  pub ran : RanWith status options s after stands out.before out.after
  -- At each of its block lines nothing that waits could go on.
  pub quiet : BlocksAtQuiet (run_of options after.answers s)

-- What words that name no server leave: the status, by the command that they name, if any; by what native workers are
-- after it, and for which logs they stand; and by the input, out and err.
pub record AnswersCommand (status : ℕ) (app : App) (command : Option OfflineCommand) (after : WorldMeaning) (stands : List LogEntry → Type 0) (input out err : Stream) : Type 0 where
  -- A text of a well-formed scenario is run.
  pub run : (options : RunOptions) (s : Scenario) (left : List ℕ) → command ≡ Some (OfflineCommand.Text (TextCommand.Run options)) →
      input.before ≡ Some left → Spells s (take most_read left) → IsWellFormed s →
      Headline status options s after stands out err
  -- What out has after `run` are lines that meet the laws of a trace, whatever the input.
  pub lawful : (options : RunOptions) → command ≡ Some (OfflineCommand.Text (TextCommand.Run options)) → HasLawfulLines status out.before out.after
  -- A text of a well-formed scenario is printed: out has its printed form.
  pub formatted : (s : Scenario) (left : List ℕ) → command ≡ Some (OfflineCommand.Text TextCommand.Format) →
      input.before ≡ Some left → Spells s (take most_read left) → IsWellFormed s →
      IsAnswered status (formatted s) out.before out.after err.before err.after
  -- Any other input is refused, by both, at its place.
  pub refused : (text : TextCommand) (left : List ℕ) → command ≡ Some (OfflineCommand.Text text) →
      input.before ≡ Some left → ((s : Scenario) → Spells s (take most_read left) → IsWellFormed s → ⊥) →
      (p : Place) × IsRefusedAt (take most_read left) p × IsAnswered status (refused_answer p) out.before out.after err.before err.after
  -- A connection is answered: out has what the session of HTTP or of SCGI sends for the bytes that were read.
  pub connection : (gateway : GatewayKind) → command ≡ Some (OfflineCommand.Wsgi gateway) → AnswersConnection status gateway app input.before input.after out.before out.after
  -- A storm is run: out has the summary of the run of its scenario, and the status and the line on err are those of the
  -- run's end. The text of each size spells a well-formed scenario (`storms_are_spelt`).
  pub storm : (size : ℕ) → command ≡ Some (OfflineCommand.Storm size) →
      (status ≢ 4) × ((s : Scenario) → IsStorm size s → IsAnswered status (answer_of_storm size (storm_run s)) out.before out.after err.before err.after)
  -- It ended with a verdict, which the streams bear out, and whose line was tried on err.
  pub ended : Ended status app command after stands input out err
  -- A text that could not be read leaves out as it was; so does `fmt` with every status but 0 and 5.
  pub unread : (text : TextCommand) → command ≡ Some (OfflineCommand.Text text) → status ≡ 4 → out.after ≡ out.before
  pub unprinted : command ≡ Some (OfflineCommand.Text TextCommand.Format) → status ≢ 0 → status ≢ 5 → out.after ≡ out.before
  -- Words that are no command have status 2, unless err failed at its line or memory ran out.
  pub usage_always : command ≡ None → (status ≡ 2) ⊎ (status ≡ 5) ⊎ (status ≡ 7)
  -- With `run` and `fmt`, every status but 4, 5 and 7 comes only where the input was read to its end or to one byte
  -- past the most that a text may have.
  pub read_whole : (text : TextCommand) → command ≡ Some (OfflineCommand.Text text) → status ≢ 4 → status ≢ 5 → status ≢ 7 →
      (left : List ℕ) → input.before ≡ Some left → input.after ≡ Some (drop most_read left)

-- Native workers are left alone where no text is run: where the input could not be read, where it is refused, and,
-- whatever the status, where what it has is told and spells no well-formed scenario.
pub record IsLeftAlone {W : Type 0} (status : ℕ) (in0 : Option (List ℕ)) (old new : W) : Type 0 where
  pub unread : status ≡ 4 → new ≡ old
  pub refused : status ≡ 3 → new ≡ old
  pub unspelt : (left : List ℕ) → in0 ≡ Some left → ((s : Scenario) → Spells s (take most_read left) → IsWellFormed s → ⊥) → new ≡ old

-- What the streams show of a status, whatever the words name.
pub record IsBorneOut (status : ℕ) (input out err : Stream) : Type 0 where
  -- A read that failed and want of memory have their line on err.
  pub read_line : status ≡ 4 → err.after ≡ appended err.before read_fault_line
  pub memory_line : status ≡ 7 → err.after ≡ appended err.before memory_line
  -- Status 4 comes where the input could not be read, and no read fails with any other status but 5.
  pub read_fault : status ≡ 4 → HasRisen input.faults_before input.faults_after
  pub read_unfailed : status ≢ 4 → status ≢ 5 → input.faults_after ≡ input.faults_before
  -- Status 5 comes where out failed, whatever became of its line; or where err failed at the line of another status.
  -- Neither fails with any other status.
  pub write_fault : status ≡ 5 → FailsToWrite out err
  pub unfailed : status ≢ 5 → (out.faults_after ≡ out.faults_before) × (err.faults_after ≡ err.faults_before)
