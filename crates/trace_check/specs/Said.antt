-- When an input is verified, and else why it is not. This project's own.
use Rattle.std.specs.Prelude.{◌≡◌, ◌≢◌, ℕ, Bool, true, false, nat_lt, List, Option, Some, None, Result, Ok, Err, length}
use Rattle.command_words.specs.declared.command.TraceCheck.{TraceCheck}
use Rattle.scenario_tree.specs.declared.tree.Scenario.{Scenario}
use Rattle.scenario_grammar.specs.declared.place.Place.{Place}
use Rattle.scenario_grammar.specs.Place.{line_at}
use Rattle.scenario_lang.specs.declared.text.ParseRefusal.{ParseRefusal}
use Rattle.scenario_lang.specs.declared.text.ParseRefusal.TheVariants as parse
use Rattle.scenario_reading.specs.Judged.{HasReason, judged_text}
use Rattle.machine.specs.Run.{run}
use Rattle.trace_laws.specs.Answers.{IsJudged, IsJudgedLawful}
use Rattle.trace_laws.specs.Parts.{parted}
use Rattle.trace_laws.specs.declared.lawful.LawlessTrace.{LawlessTrace}
use Rattle.trace_laws.specs.declared.refusal.Cause.{Cause}
use Rattle.trace_laws.specs.declared.refusal.TraceRefusal.{TraceRefusal}
use Rattle.trace_check.specs.Inputs.{end_line}
use Rattle.trace_check.specs.declared.inputs.TheConstants.{MOST_CHECKED}
use Rattle.trace_check.specs.declared.verifying.Unverified.{Unverified}

-- the number of lines, or why there is none
abbrev pub Verification : Type 0
Verification = Result ℕ Unverified

-- what a refusal of a text says of the input that has it
abbrev pub said_of_text : ParseRefusal → Unverified
said_of_text (parse.Refused place) = Unverified.Refused place
said_of_text parse.Memory = Unverified.Memory

-- what a judgement on a trace says of the input that has it
abbrev pub said_of_run : Result ℕ TraceRefusal → Verification
said_of_run (Ok lines) = Ok lines
said_of_run (Err (TraceRefusal.Wrong line cause)) = Err (Unverified.Wrong line cause)
said_of_run (Err TraceRefusal.Memory) = Err Unverified.Memory

abbrev pub said_of_laws : Result ℕ LawlessTrace → Verification
said_of_laws (Ok lines) = Ok lines
said_of_laws (Err (LawlessTrace.NotALine line)) = Err (Unverified.Wrong line Cause.NotALine)
said_of_laws (Err (LawlessTrace.Broken line law)) = Err (Unverified.Lawless line law)
said_of_laws (Err LawlessTrace.Memory) = Err Unverified.Memory

-- the trace is judged to be the run of the scenario within so many turns and moves, or not to be; or the text spells no
-- scenario
abbrev pub IsSaidOfScenario : Result Scenario Place → ℕ → ℕ → List ℕ → Verification → Type 0
IsSaidOfScenario (Ok s) turns moves trace v = (r : Result ℕ TraceRefusal) × IsJudged (run s turns moves) trace r × (v ≡ said_of_run r)
IsSaidOfScenario (Err place) turns moves trace v = v ≡ Err (Unverified.Refused place)

-- the scenario stands before the first line of four equals signs, and the trace behind that line
abbrev pub IsSaidOfParts : Option (List ℕ × List ℕ) → List ℕ → ℕ → ℕ → Verification → Type 0
IsSaidOfParts None bytes turns moves v = v ≡ Err (Unverified.Unmarked (end_line bytes))
IsSaidOfParts (Some p) bytes turns moves v = IsSaidOfScenario (judged_text p.0) turns moves p.1 v

-- the whole input is the trace
abbrev pub IsSaidOfTrace : List ℕ → Verification → Type 0
IsSaidOfTrace bytes v = (r : Result ℕ LawlessTrace) × IsJudgedLawful bytes r × (v ≡ said_of_laws r)

-- an input that is too long is judged no further
abbrev pub IsSaidIf : (is_long : Bool) → TraceCheck → List ℕ → Verification → Type 0
IsSaidIf true check bytes v = v ≡ Err (Unverified.Overlong (line_at MOST_CHECKED bytes))
IsSaidIf false (TraceCheck.Run turns moves) bytes v = IsSaidOfParts (parted bytes) bytes turns moves v
IsSaidIf false TraceCheck.Laws bytes v = IsSaidOfTrace bytes v

-- what this check of an input says, of which these bytes are here
unfoldable pub IsSaidOf : TraceCheck → List ℕ → Verification → Type 0
IsSaidOf check bytes v = IsSaidIf (nat_lt MOST_CHECKED (length bytes)) check bytes v

-- it is said, unless memory ran out
abbrev pub IsSaid : (Verification → Type 0) → Verification → Type 0
IsSaid said v = v ≢ Err Unverified.Memory → said v

-- the same is said, unless memory ran out
abbrev pub IsSame : Verification → Verification → Type 0
IsSame v w = v ≢ Err Unverified.Memory → w ≢ Err Unverified.Memory → v ≡ w

-- a refusal of a scenario has one of the reasons
abbrev pub IsReasoned : Unverified → Type 0
IsReasoned (Unverified.Refused place) = HasReason place
IsReasoned u = Unit {0}
