-- What `verify` answers, and what each command does.
use Rattle.std.specs.Prelude.{◌≡◌, ◌⊎◌, ℕ, List, [], ◌++◌, Option, Some, None, codes, take}
use Rattle.gv_values.specs.declared.job.Answer.{Answer as Given}
use Rattle.gv_values.specs.Texts.{decimal}
use Rattle.command_words.specs.declared.command.TraceCheck.{TraceCheck}
use Rattle.serve_command.specs.Lines.{number_line}
use Rattle.trace_laws.specs.Refusal.{cause_number, check_cause_text}
use Rattle.trace_check.specs.Inputs.{most_checked_read}
use Rattle.trace_check.specs.declared.inputs.TheConstants.{MOST_CHECKED}
use Rattle.trace_check.specs.declared.verifying.Unverified.{Unverified}
use Rattle.wsgi_core.specs.Applications.{App}
use Rattle.wsgi_connection.specs.Connection.{whole_session}
use Rattle.gv_top.specs.Answers.{Answer, IsStormAnswer, IsTextAnswer, answer_of_session, most_read, no_port, place_text, refused_answer, on_err, usage}
use Rattle.gv_top.specs.Outcomes.{Fails, Passes, Refuses}
use Rattle.gv_top.specs.Gateway.{answers_by}
use Rattle.gv_top.specs.declared.words.OfflineCommand.{OfflineCommand}
use Rattle.gv_top.specs.declared.words.OfflineCommand.TheVariants.{Text, Wsgi, Storm, Verify}

-- the check came out well, and the trace has so many lines
abbrev pub verified : ℕ → Answer
verified lines = record { status = 0; out = number_line (codes "verified lines") lines; err = [] }

-- a line of the trace, and what is said of it
abbrev pub trace_text : ℕ → List ℕ → List ℕ
trace_text number text = codes "trace line " ++ decimal number ++ codes ": " ++ text

-- an input that is not verified: it is too long, has no line of four equals signs or is refused at a place; or a line of
-- the trace is wrong, for a cause, or breaks a law
abbrev pub unverified : Unverified → Answer
unverified (Unverified.Overlong number) = on_err 3 (place_text number 25 (codes "input longer than " ++ decimal MOST_CHECKED ++ codes " bytes"))
unverified (Unverified.Unmarked number) = on_err 3 (place_text number 24 (codes "no line of four equals signs"))
unverified (Unverified.Refused place) = refused_answer place
unverified (Unverified.Wrong number cause) = on_err 9 (trace_text number (codes "cause " ++ decimal (cause_number cause) ++ codes ": " ++ check_cause_text cause))
unverified (Unverified.Lawless number law) = on_err 9 (trace_text number (codes "law " ++ decimal law))
unverified Unverified.Memory = on_err 7 (codes "out of memory")

-- the answer of this check of an input, of which these bytes are read
unfoldable pub IsCheckAnswer : TraceCheck → List ℕ → Answer → Type 0
IsCheckAnswer check bytes a =
    ((lines : ℕ) × Passes check bytes lines × (a ≡ verified lines)) ⊎ ((why : Unverified) × (Fails check bytes why ⊎ Refuses check bytes why) × (a ≡ unverified why))

-- the answer of a command with this application to what is left of an input, where native workers gave these answers
abbrev pub IsAnswerOf : App → Option OfflineCommand → List Given → List ℕ → Answer → Type 0
IsAnswerOf app None given left a = a ≡ usage
IsAnswerOf app (Some (Text command)) given left a = IsTextAnswer command given (take most_read left) a
IsAnswerOf app (Some (Wsgi gateway)) given left a = a ≡ answer_of_session (whole_session (answers_by gateway) app no_port left)
IsAnswerOf app (Some (Storm n)) given left a = IsStormAnswer n a
IsAnswerOf app (Some (Verify check)) given left a = IsCheckAnswer check (take most_checked_read left) a
