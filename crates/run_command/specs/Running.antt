-- Runs of a scenario in a world, which is begun before and finished after.
use Rattle.std.specs.Prelude.{◌≡◌, ◌⊎◌, ℕ, Bool, true, false, List, [], ◌++◌, Option}
use Rattle.gv_values.specs.declared.job.Answer.{Answer}
use Rattle.world_rules.specs.declared.question.LogEntry.{LogEntry}
use Rattle.world_rules.specs.Legal.{AreLegal, answers_of, is_answered, posts_of}
use Rattle.world.specs.LegalLogs.{HasLegalLog}
use Rattle.world.specs.Outside.{WorldMeaning}
use Rattle.scenario_tree.specs.declared.tree.Scenario.{Scenario}
use Rattle.machine.specs.Run.{Ran, run, script_run}
use Rattle.machine.specs.TraceLaws.{meets_laws}
use Rattle.trace_text.specs.Line.{answers_told}
use Rattle.machine_told.specs.Told.{posts_told}
use Rattle.hub_engine.specs.Run.{WroteAhead}
use Rattle.command_words.specs.declared.command.RunOptions.{RunOptions}
use Rattle.command_words.specs.declared.command.RunWorld.{RunWorld}
use Rattle.command_words.specs.declared.command.RunWorld.TheVariants.{Script, Native, Held}

-- the run of the scenario with these options: under the rule of a script, also where native workers do the jobs and
-- their results are told in its order; or under the answers of native workers
abbrev pub run_of : RunOptions → List Answer → Scenario → Ran
run_of options answers s = elim options.world [
  | Script tick ↦ script_run s options.turns options.moves tick
  | Native workers ↦ run s options.turns options.moves answers
  | Held workers ↦ script_run s options.turns options.moves 0
]

abbrev pub is_native_world : RunWorld → Bool
is_native_world (Script tick) = false
is_native_world (Native workers) = true
is_native_world (Held workers) = true

-- what holds of a run with these options that was begun: its lines meet the laws of a trace; and with native workers
-- what it says before the last question stood in out when that was answered
pub record IsBegun (options : RunOptions) (s : Scenario) (answers : List Answer) (out0 out1 : Option (List ℕ)) : Type 0 where
  pub lawful : meets_laws (run_of options answers s).lines ≡ true
  pub ahead : (workers : ℕ) → options.world ≡ Native workers → WroteAhead (λ given. run_of options given s) answers out0 out1

-- What native workers were posted and answered is a first part of this log, each answer of which is legal.
pub record IsLogged (log : List LogEntry) (after : WorldMeaning) : Type 0 where
  pub part : List LogEntry
  pub later : List LogEntry
  pub begins : log ≡ part ++ later
  pub posts : posts_of part ≡ after.posts
  pub answers : answers_of part ≡ after.answers
  pub legal : AreLegal [] [] log

-- With native workers, what a run says before its last question stood in out when that was answered, and was handed on
-- where they may be long in answering. They were posted what it posts up to where it stopped or was broken off, and
-- nothing else.
pub record IsNativeAhead (waits : Bool) (whole : List Answer → Ran) (after : WorldMeaning) (out0 out1 handed1 : Option (List ℕ)) : Type 0 where
  pub written : WroteAhead whole after.answers out0 out1
  pub handed : waits ≡ true → WroteAhead whole after.answers out0 handed1
  pub logged : IsLogged (whole after.answers).log after

-- With held order the run is given answers in the order of a script, each of them legal. Native workers were posted what
-- it posts up to the last of these, and answered that a job is done for each that these say so of, each of their own
-- answers legal too; and what it says before that answer stood in out then, and was handed on where they may be long in
-- answering.
pub record IsHeldAhead (waits : Bool) (whole : List Answer → Ran) (after : WorldMeaning) (out0 out1 handed1 : Option (List ℕ)) : Type 0 where
  pub given : List Answer
  pub part : List LogEntry
  pub later : List LogEntry
  pub begins : (whole given).log ≡ part ++ later
  pub answers : answers_of part ≡ given
  pub posts : posts_of part ≡ after.posts
  pub legal : AreLegal [] [] (whole given).log
  pub done : (number : ℕ) → is_answered number given ≡ true → is_answered number after.answers ≡ true
  pub logged : ∥ HasLegalLog after (λ log. Unit {0}) ∥₁
  pub written : WroteAhead whole given out0 out1
  pub handed : waits ≡ true → WroteAhead whole given out0 handed1

-- how native workers were asked, where the options ask for them
pub record IsRunAhead (waits : Bool) (options : RunOptions) (s : Scenario) (after : WorldMeaning) (out0 out1 handed1 : Option (List ℕ)) : Type 0 where
  pub native : (workers : ℕ) → options.world ≡ Native workers → IsNativeAhead waits (run s options.turns options.moves) after out0 out1 handed1
  pub held : (workers : ℕ) → options.world ≡ Held workers → IsHeldAhead waits (run s options.turns options.moves) after out0 out1 handed1

-- No run was begun: nothing was written and no write failed, and native workers are as they were. With held order that
-- is not said of them.
pub record IsNotRun (options : RunOptions) (before after : WorldMeaning) (out0 out1 : Option (List ℕ)) (faults0 faults1 : ℕ) : Type 0 where
  pub unwritten : out1 ≡ out0
  pub untried : faults1 ≡ faults0
  pub kept : (workers : ℕ) → options.world ≡ Native workers → after ≡ before

-- the run was begun so, or none was begun
abbrev pub BeganSo : Bool → RunOptions → Scenario → WorldMeaning → WorldMeaning → Option (List ℕ) → Option (List ℕ) → Option (List ℕ) → ℕ → ℕ → Type 0
BeganSo waits options s before after out0 out1 handed1 faults0 faults1 = IsRunAhead waits options s after out0 out1 handed1 ⊎ IsNotRun options before after out0 out1 faults0 faults1

-- What native workers are after a whole run: so many were begun, and run no longer; they were posted the jobs of the
-- job lines, in order, and the turn lines have their answers, each of which is legal; and they stand for the log of the
-- run.
pub record RanNatively (workers : ℕ) (r : Ran) (after : WorldMeaning) (stands : List LogEntry → Type 0) : Type 0 where
  pub workers_are : after.workers ≡ workers
  pub rests : after.runs ≡ false
  pub posts : posts_told r.lines ≡ after.posts
  pub answers : answers_told r.lines ≡ after.answers
  pub legal : AreLegal [] [] r.log
  pub log : stands r.log

-- What native workers are after a whole run whose results were told in the order of a script: so many were begun, and
-- run no longer; they were posted the jobs of the job lines, in order; they answered that a job is done for each of
-- which a turn line says so; and they stand for a log of those posts and of their answers, each of which is legal.
pub record RanHeld (workers : ℕ) (r : Ran) (after : WorldMeaning) (stands : List LogEntry → Type 0) : Type 0 where
  pub workers_are : after.workers ≡ workers
  pub rests : after.runs ≡ false
  pub posts : posts_told r.lines ≡ after.posts
  pub done : (number : ℕ) → is_answered number (answers_told r.lines) ≡ true → is_answered number after.answers ≡ true
  pub logged : ∥ HasLegalLog after stands ∥₁
