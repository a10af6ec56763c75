-- What the call leaves behind.
use Rattle.std.specs.Prelude.{◌≡◌, ◌≢◌, ◌⊎◌, ℕ, true, List, Option, Some, None, drop, filter, take}
use Rattle.std.specs.List.{list_all, flat_map}
use Rattle.gv_values.specs.Counts.{HasRisen}
use Rattle.gv_io.specs.Streams.{appended, AppendsPrefix}
use Rattle.command_words.specs.declared.command.GatewayKind.{GatewayKind}
use Rattle.command_words.specs.declared.command.RunOptions.{RunOptions}
use Rattle.command_words.specs.declared.command.TextCommand.{TextCommand}
use Rattle.command_words.specs.declared.command.TraceCheck.{TraceCheck}
use Rattle.scenario_tree.specs.declared.tree.Scenario.{Scenario}
use Rattle.scenario_grammar.specs.Spells.{Spells}
use Rattle.scenario_rules.specs.Rules.{IsWellFormed}
use Rattle.world.specs.Outside.{WorldMeaning}
use Rattle.world_rules.specs.declared.question.LogEntry.{LogEntry}
use Rattle.trace_text.specs.Line.{text_of}
use Rattle.trace_text.specs.declared.line.Line.{Line}
use Rattle.machine.specs.Quiet.{is_quiet}
use Rattle.machine.specs.Run.{Ran}
use Rattle.machine.specs.TraceLaws.{meets_laws}
use Rattle.machine_blocks.specs.Blocks.{block_lines, is_block}
use Rattle.wsgi_core.specs.Applications.{App}
use Rattle.wsgi_connection.specs.Connection.{Exchanged}
use Rattle.wsgi_connection.specs.declared.connection.ConnectionEnd.{ConnectionEnd}
use Rattle.run_command.specs.Faults.{Counts}
use Rattle.gv_top.specs.declared.status.Failure.{Failure}
use Rattle.gv_top.specs.declared.status.Verdict.{Verdict}
use Rattle.gv_top.specs.declared.words.OfflineCommand.{OfflineCommand}
use Rattle.gv_top.specs.Answers.{Answer, IsStormAnswer, most_read, no_port, write_fault_line}
use Rattle.gv_top.specs.Gateway.{answers_by}
use Rattle.gv_top.specs.Status.{verdict_line, verdict_of_connection, verdict_status}
use Rattle.gv_top.specs.Verifying.{IsAnswerOf, IsCheckAnswer}
use Rattle.trace_check.specs.Inputs.{most_checked_read}
use Rattle.gv_top.specs.Running.{RanWith}

-- a stream before the call and after it: its bytes, left to read or written, where they are told; how often it failed
pub record Stream : Type 0 where
  pub before : Option (List ℕ)
  pub after : Option (List ℕ)
  pub faults_before : ℕ
  pub faults_after : ℕ

-- what is seen of a stream that was the one and is the other
abbrev pub seen : {A : Type 0} → (A → Option (List ℕ)) → (A → ℕ) → A → A → Stream
seen bytes faults old new = record { before = bytes old; after = bytes new; faults_before = faults old; faults_after = faults new }

-- nothing that was written is kept back, where nothing was before; but where a write failed or memory ran out
abbrev pub HandsOn : ℕ → Option (List ℕ) → Option (List ℕ) → Option (List ℕ) → Option (List ℕ) → Type 0
HandsOn n written0 handed0 written1 handed1 = n ≢ 5 → n ≢ 7 → handed0 ≡ written0 → handed1 ≡ written1

-- the verdict is the answer's, and out has its whole text
abbrev pub FitsAnswer : Verdict → Answer → Option (List ℕ) → Option (List ℕ) → Type 0
FitsAnswer v a old new = (new ≡ appended old a.out) × (verdict_status v ≡ a.status) × (verdict_line v ≡ a.err)

-- the verdict fits; or a fault or want of memory cut the text of the answer short. No answer wants a net.
abbrev pub Decided : Verdict → Answer → Option (List ℕ) → Option (List ℕ) → Type 0
Decided (Verdict.Did conclusion) a old new = FitsAnswer (Verdict.Did conclusion) a old new
Decided (Verdict.Broke Failure.Net) a old new = ⊥
Decided (Verdict.Broke failure) a old new = AppendsPrefix old new a.out

-- What a command came to, by its input and out, and by what native workers are after it.
pub record CameTo (v : Verdict) (app : App) (command : Option OfflineCommand) (after : WorldMeaning) (stands : List LogEntry → Type 0) (input out : Stream) : Type 0 where
  -- where the input is told, the answer is decided
  pub answer : (left : List ℕ) (a : Answer) → input.before ≡ Some left → IsAnswerOf app command after.answers left a → Decided v a out.before out.after
  -- a check of a trace has an answer
  pub checked : (check : TraceCheck) (left : List ℕ) → command ≡ Some (OfflineCommand.Verify check) → input.before ≡ Some left → verdict_status v ≢ 4 → verdict_status v ≢ 5 → verdict_status v ≢ 7 →
      (a : Answer) × IsCheckAnswer check (take most_checked_read left) a × FitsAnswer v a out.before out.after
  -- the words are no command
  pub usage : verdict_status v ≡ 2 → command ≡ None
  -- a read or a write failed, and none with any other verdict
  pub reads : Counts (verdict_status v ≡ 4) input.faults_before input.faults_after
  pub writes : Counts (verdict_status v ≡ 5) out.faults_before out.faults_after
  -- a text that could not be read leaves out as it was
  pub unread : (text : TextCommand) → command ≡ Some (OfflineCommand.Text text) → verdict_status v ≡ 4 → out.after ≡ out.before
  -- so does a text that is not printed
  pub unprinted : command ≡ Some (OfflineCommand.Text TextCommand.Format) → verdict_status v ≢ 0 → verdict_status v ≢ 5 → out.after ≡ out.before
  -- so does a trace whose lines are not told
  pub untold : (check : TraceCheck) → command ≡ Some (OfflineCommand.Verify check) → verdict_status v ≢ 0 → verdict_status v ≢ 5 → out.after ≡ out.before
  -- an input that is checked was read to its end, or to one byte past the most
  pub read_trace : (check : TraceCheck) → command ≡ Some (OfflineCommand.Verify check) → verdict_status v ≢ 4 → verdict_status v ≢ 7 →
      (left : List ℕ) → input.before ≡ Some left → input.after ≡ Some (drop most_checked_read left)
  -- any other text was read to its end, or to one byte past the most
  pub read_whole : (text : TextCommand) → command ≡ Some (OfflineCommand.Text text) → verdict_status v ≢ 4 → verdict_status v ≢ 7 →
      (left : List ℕ) → input.before ≡ Some left → input.after ≡ Some (drop most_read left)
  -- a storm reads no input, and is answered whatever that is
  pub storm : (size : ℕ) → command ≡ Some (OfflineCommand.Storm size) → (verdict_status v ≢ 4) × ((a : Answer) → IsStormAnswer size a → Decided v a out.before out.after)
  -- a run was begun, or was not; and native workers were begun and asked as the words want
  pub ran : (options : RunOptions) (s : Scenario) (left : List ℕ) → command ≡ Some (OfflineCommand.Text (TextCommand.Run options)) →
      input.before ≡ Some left → Spells s (take most_read left) → IsWellFormed s → RanWith (verdict_status v) options s after stands out.before out.after

-- err has the line of the verdict, whose status is answered; or it failed at that line, and the status is 5
abbrev pub IsVerdictTold : ℕ → Verdict → Option (List ℕ) → Option (List ℕ) → ℕ → ℕ → Type 0
IsVerdictTold n v old new faults0 faults1 =
    ((n ≡ verdict_status v) × (new ≡ appended old (verdict_line v)) × (faults1 ≡ faults0))
    ⊎ ((n ≡ 5) × (verdict_status v ≢ 0) × HasRisen faults0 faults1 × AppendsPrefix old new (verdict_line v))

-- the verdict of a command, and what of its line came to err
pub record Ended (n : ℕ) (app : App) (command : Option OfflineCommand) (after : WorldMeaning) (stands : List LogEntry → Type 0) (input out err : Stream) : Type 0 where
  pub verdict : Verdict
  pub came_to : CameTo verdict app command after stands input out
  pub told : IsVerdictTold n verdict err.before err.after err.faults_before err.faults_after

-- the status is the verdict's; or, at the line of the verdict, 5 if err failed, and 7 if memory ran out
abbrev pub IsStatusOf : ℕ → Verdict → Type 0
IsStatusOf n v = (n ≡ verdict_status v) ⊎ ((verdict_status v ≢ 0) × ((n ≡ 5) ⊎ (n ≡ 7)))

-- the status, out and err are the answer's; but with the statuses 4, 5 and 7 out has a beginning of its text
pub record IsAnswered (n : ℕ) (a : Answer) (out0 out1 err0 err1 : Option (List ℕ)) : Type 0 where
  pub prefix : AppendsPrefix out0 out1 a.out
  pub status : n ≢ 4 → n ≢ 5 → n ≢ 7 → n ≡ a.status
  pub out : n ≢ 4 → n ≢ 5 → n ≢ 7 → out1 ≡ appended out0 a.out
  pub err : n ≢ 4 → n ≢ 5 → n ≢ 7 → err1 ≡ appended err0 a.err

-- out has lines that meet the laws of a trace; but with the statuses 4, 5 and 7 it has a beginning of their text
pub record HasLawfulLines (n : ℕ) (out0 out1 : Option (List ℕ)) : Type 0 where
  pub lines : List Line
  pub lawful : meets_laws lines ≡ true
  pub prefix : AppendsPrefix out0 out1 (text_of lines)
  pub whole : n ≢ 4 → n ≢ 5 → n ≢ 7 → out1 ≡ appended out0 (text_of lines)

-- the block lines are those of the blocked states, and at each of these nothing that waits could go on
pub record BlocksAtQuiet (r : Ran) : Type 0 where
  pub told : filter is_block r.lines ≡ flat_map block_lines r.blocked
  pub quiet : list_all is_quiet r.blocked ≡ true

-- the application answered the connection that input and out are, and the status is that of its end
pub record AnswersConnection (n : ℕ) (gateway : GatewayKind) (app : App) (in0 in1 out0 out1 : Option (List ℕ)) : Type 0 where
  pub end : ConnectionEnd
  pub exchanged : Exchanged end (answers_by gateway) app no_port in0 in1 out0 out1
  pub status : IsStatusOf n (verdict_of_connection end)

-- what led to status 5: out failed, and err has the line of that or failed at it; or err failed at another line
abbrev pub FailsToWrite : Stream → Stream → Type 0
FailsToWrite out err =
    (HasRisen out.faults_before out.faults_after
    × ((err.after ≡ appended err.before write_fault_line) ⊎ (HasRisen err.faults_before err.faults_after × AppendsPrefix err.before err.after write_fault_line)))
    ⊎ ((v : Verdict) × (verdict_status v ≢ 0) × HasRisen err.faults_before err.faults_after × AppendsPrefix err.before err.after (verdict_line v))
