-- From what a run in a world came to, to what is said of it by the status.
use Rattle.std.proofs.Common.{◌≡◌, ◌≢◌, ◌⊎◌, inl, inr, refl, ap, sym, subst, ◌∙◌, ℕ, Result, Ok, Err, true, List, [], Option, Some, take}
use Rattle.gv_values.specs.declared.job.Answer.{Answer}
use Rattle.gv_io.specs.Streams.{appended}
use Rattle.trace_text.specs.Line.{text_of}
use Rattle.scenario_tree.specs.declared.tree.Scenario.{Scenario}
use Rattle.world_rules.specs.declared.question.LogEntry.{LogEntry}
use Rattle.world.specs.Outside.{WorldMeaning}
use Rattle.machine.specs.Run.{Ran, Source, run, run_from, script_run}
use Rattle.hub_engine.specs.declared.run.EngineEnd.{EngineEnd}
use Rattle.hub_engine.specs.Ends.{RanTo}
use Rattle.gv_top.proofs.Tops.{unchanged_lawful}
use Rattle.run_command.specs.Ends.{HadNoMemory}
use Rattle.run_command.specs.Running.{IsBegun, RanHeld, RanNatively, run_of}
use Rattle.run_command.proofs.InWorlds.{prefix_of_trace}
use Rattle.gv_top.specs.Running.{IsUnbegun, RanWith}
use Rattle.gv_top.specs.Inner.{RanScenarioSo, RanSo}
use Rattle.scenario_reading.specs.Judged.{judged_text}
use Rattle.gv_top.specs.Answers.{most_read}
use Rattle.gv_top.specs.declared.words.OfflineCommand.{OfflineCommand}
use Rattle.gv_top.specs.Top.{BlocksAtQuiet, HasLawfulLines}
use Rattle.machine_blocks.specs.Laws.{BlocksAreTold}
use Rattle.machine_trace_laws.specs.Laws.{BlocksQuietly}
use Rattle.scenario_rules.specs.Rules.{IsWellFormed}
use Rattle.gv_top.specs.Status.{verdict_of_run, verdict_of_text, verdict_status}
use Rattle.gv_top.specs.declared.status.Verdict.{Verdict}
use Rattle.command_words.specs.declared.command.RunOptions.{RunOptions}
use Rattle.command_words.specs.declared.command.RunWorld.{RunWorld}
use Rattle.command_words.specs.declared.command.TextCommand.{TextCommand}
use Rattle.scenario_grammar.specs.declared.place.Place.{Place}
use Rattle.scenario_lang.specs.declared.text.ParseRefusal.{ParseRefusal}
use Rattle.scenario_lang.specs.declared.text.ParseRefusal.TheVariants as parse
use Rattle.scenario_lang.specs.Lines.{Parses}
use Rattle.machine.specs.TraceLaws.{meets_laws}

-- ---- lines that meet the laws

-- what out has of a run whose lines meet the laws
lines_lawful : (end : EngineEnd) (r : Ran) (out0 out1 : Option (List ℕ)) → RanTo end r out0 out1 → meets_laws r.lines ≡ true → HasLawfulLines (verdict_status (verdict_of_run end)) out0 out1
lines_lawful end r out0 out1 h lawful = record { lines = r.lines; lawful = lawful; prefix = prefix_of_trace end r out0 out1 h; whole = λ h4 h5 h7. whole end h h5 h7 }
  where
    whole : (end : EngineEnd) → RanTo end r out0 out1 → verdict_status (verdict_of_run end) ≢ 5 → verdict_status (verdict_of_run end) ≢ 7 → out1 ≡ appended out0 (text_of r.lines)
    whole EngineEnd.WriteFault h h5 h7 = absurd (h5 refl)
    whole EngineEnd.Memory h h5 h7 = absurd (h7 refl)
    whole EngineEnd.MainValue h h5 h7 = h.0
    whole (EngineEnd.MainFault f) h h5 h7 = h.0
    whole EngineEnd.NoTurns h h5 h7 = h.0
    whole EngineEnd.NoMoves h h5 h7 = h.0
    whole EngineEnd.NoGreenlets h h5 h7 = h.0
    whole EngineEnd.NoLinks h h5 h7 = h.0
    whole EngineEnd.NoKills h h5 h7 = h.0

-- what out has of a run whose lines meet the laws, or of one that was not begun
pub run_lawful : (end : EngineEnd) (verdict : Verdict) (options : RunOptions) (answers : List Answer) (s : Scenario) (out0 out1 : Option (List ℕ)) → verdict ≡ verdict_of_run end → RanTo end (run_of options answers s) out0 out1
    → IsBegun options s answers out0 out1 ⊎ HadNoMemory end out0 out1 → HasLawfulLines (verdict_status verdict) out0 out1
run_lawful end verdict options answers s out0 out1 is h begun = let P : Verdict → Type 0 = λ v. HasLawfulLines (verdict_status v) out0 out1 in subst P (sym is) (by begun)
  where
    by : IsBegun options s answers out0 out1 ⊎ HadNoMemory end out0 out1 → HasLawfulLines (verdict_status (verdict_of_run end)) out0 out1
    by (inl begun) = lines_lawful end (run_of options answers s) out0 out1 h begun.lawful
    by (inr unbegun) = unchanged_lawful (verdict_status (verdict_of_run end)) out0 out1 unbegun.0

-- ---- under the command

-- where no run was begun, no native workers ran
pub none_ran : (n : ℕ) (options : RunOptions) (s : Scenario) (after : WorldMeaning) (stands : List LogEntry → Type 0) (out0 out1 : Option (List ℕ)) → IsUnbegun n out0 out1
    → RanWith n options s after stands out0 out1
none_ran n options s after stands out0 out1 u = record { begun = inr u; native = λ workers w h4 h5 h7. absurd (by u.1 h4 h5 h7); held = λ workers w h4 h5 h7. absurd (by u.1 h4 h5 h7) }
  where
    by : (n ≡ 4) ⊎ (n ≡ 5) ⊎ (n ≡ 7) → n ≢ 4 → n ≢ 5 → n ≢ 7 → ⊥
    by (inl e) h4 h5 h7 = h4 e
    by (inr (inl e)) h4 h5 h7 = h5 e
    by (inr (inr e)) h4 h5 h7 = h7 e

-- what a run of these options came to is what the command that asks for it came to
pub scenario_ran : (command : TextCommand) (options : RunOptions) (end : EngineEnd) (verdict : Verdict) (s : Scenario) (after : WorldMeaning) (stands : List LogEntry → Type 0) (out0 out1 : Option (List ℕ)) →
    command ≡ TextCommand.Run options → verdict ≡ verdict_of_run end
    → IsBegun options s after.answers out0 out1 ⊎ HadNoMemory end out0 out1
    → ((workers : ℕ) → options.world ≡ RunWorld.Native workers → end ≢ EngineEnd.WriteFault → end ≢ EngineEnd.Memory → RanNatively workers (run_of options after.answers s) after stands)
    → ((workers : ℕ) → options.world ≡ RunWorld.Held workers → end ≢ EngineEnd.WriteFault → end ≢ EngineEnd.Memory → RanHeld workers (run_of options after.answers s) after stands)
    → RanScenarioSo (verdict_status verdict) command s after stands out0 out1
scenario_ran command options end verdict s after stands out0 out1 is same begun h k = λ wanted e.
    let P : RunOptions → Type 0 = λ o. RanWith (verdict_status (verdict_of_run end)) o s after stands out0 out1 in
    let Q : Verdict → Type 0 = λ v. RanWith (verdict_status v) wanted s after stands out0 out1 in
    subst Q (sym same) (subst P (same_options options wanted (sym is ∙ e)) (record {
      begun = begun_so begun;
      native = λ workers v h4 h5 h7. h workers v (λ z. h5 (ap (λ x. verdict_status (verdict_of_run x)) z)) (λ z. h7 (ap (λ x. verdict_status (verdict_of_run x)) z));
      held = λ workers v h4 h5 h7. k workers v (λ z. h5 (ap (λ x. verdict_status (verdict_of_run x)) z)) (λ z. h7 (ap (λ x. verdict_status (verdict_of_run x)) z));
    }))
  where
    same_options : (a b : RunOptions) → TextCommand.Run a ≡ TextCommand.Run b → a ≡ b
    same_options a b e = cc e

    begun_so : IsBegun options s after.answers out0 out1 ⊎ HadNoMemory end out0 out1 → IsBegun options s after.answers out0 out1 ⊎ IsUnbegun (verdict_status (verdict_of_run end)) out0 out1
    begun_so (inl b) = inl b
    begun_so (inr u) = inr (u.0, inr (inr (ap (λ x. verdict_status (verdict_of_run x)) u.1)))

-- a command that prints runs nothing
pub format_runs_nothing : (command : TextCommand) (options : RunOptions) (P : Type 0) → command ≡ TextCommand.Format → command ≡ TextCommand.Run options → P
format_runs_nothing command options P is e = absurd (no (sym is ∙ e))
  where
    no : TextCommand.Format ≡ TextCommand.Run options → ⊥
    no z = cc z

-- nor does one whose text is refused
other_judged : (p : Place) (s : Scenario) → ◌≡◌ {A = Result Scenario Place} (Err p) (Ok s) → ⊥
other_judged p s z = cc z

pub refused_runs_nothing : (e : ParseRefusal) (v : Verdict) (command : TextCommand) (bytes : List ℕ) (after : WorldMeaning) (stands : List LogEntry → Type 0) (out : Option (List ℕ)) → v ≡ verdict_of_text e → Parses (judged_text bytes) (Err e)
    → RanSo (verdict_status v) command bytes after stands out out
refused_runs_nothing e v command bytes after stands out is h = λ s j options c. none_ran (verdict_status v) options s after stands out out (refl, inr (inr (ap verdict_status is ∙ by e h s j)))
  where
    by : (e : ParseRefusal) → Parses (judged_text bytes) (Err e) → (s : Scenario) → judged_text bytes ≡ Ok s → verdict_status (verdict_of_text e) ≡ 7
    by (parse.Refused p) h s j = absurd (other_judged p s (sym h ∙ j))
    by parse.Memory h s j = refl

-- one whose text was judged so ran that scenario
pub judged_ran : (n : ℕ) (command : TextCommand) (bytes : List ℕ) (s : Scenario) (after : WorldMeaning) (stands : List LogEntry → Type 0) (out0 out1 : Option (List ℕ)) → judged_text bytes ≡ Ok s
    → RanScenarioSo n command s after stands out0 out1 → RanSo n command bytes after stands out0 out1
judged_ran n command bytes s after stands out0 out1 j h = λ t k.
    let P : Scenario → Type 0 = λ x. RanScenarioSo n command x after stands out0 out1 in subst P (same s t (sym j ∙ k)) h
  where
    same : (a b : Scenario) → ◌≡◌ {A = Result Scenario Place} (Ok a) (Ok b) → a ≡ b
    same a b z = cc z

-- so did one that is the same
pub text_ran : (given text : TextCommand) (n : ℕ) (input out0 out1 : Option (List ℕ)) (after : WorldMeaning) (stands : List LogEntry → Type 0) → OfflineCommand.Text text ≡ OfflineCommand.Text given
    → ((left : List ℕ) → input ≡ Some left → RanSo n given (take most_read left) after stands out0 out1)
    → (left : List ℕ) → input ≡ Some left → RanSo n text (take most_read left) after stands out0 out1
text_ran given text n input out0 out1 after stands is h left told =
    let P : TextCommand → Type 0 = λ t. RanSo n t (take most_read left) after stands out0 out1 in subst P (same given text (sym is)) (h left told)
  where
    same : (a b : TextCommand) → OfflineCommand.Text a ≡ OfflineCommand.Text b → a ≡ b
    same a b z = cc z

-- ---- blocked states

-- the run's block lines are said at its blocked states, which are quiet
pub quiet_blocks : BlocksAreTold → BlocksQuietly → (options : RunOptions) (given : List Answer) (s : Scenario) → IsWellFormed s → BlocksAtQuiet (run_of options given s)
quiet_blocks told quiet options given s well = by options.world
  where
    of : (source : Source) → BlocksAtQuiet (run_from source options.turns options.moves s)
    of source = record { told = told s source options.turns options.moves; quiet = quiet s source options.turns options.moves well }

    by : (world : RunWorld) → BlocksAtQuiet (elim world [
      | RunWorld.Script tick ↦ script_run s options.turns options.moves tick
      | RunWorld.Native workers ↦ run s options.turns options.moves given
      | RunWorld.Held held ↦ script_run s options.turns options.moves 0
    ])
    by (RunWorld.Script tick) = of (Source.Scripted tick [])
    by (RunWorld.Native workers) = of (Source.Given given)
    by (RunWorld.Held workers) = of (Source.Scripted 0 [])
