-- When a trace is that of a run, and else where and why it is not. A run is given as what it is under each list of
-- answers. This project's own.
use Rattle.std.specs.Prelude.{◌≡◌, ◌≢◌, ℕ, ◌+◌, List, [], ◌∷◌, ◌++◌, length}
use Rattle.gv_values.specs.declared.job.Answer.{Answer}
use Rattle.gv_values.specs.Texts.{Text}
use Rattle.world_rules.specs.Legal.{AreLegal}
use Rattle.trace_text.specs.declared.line.Line.{Line}
use Rattle.trace_text.specs.Line.{answers_told, text_of}
use Rattle.machine.specs.Run.{GoOnFrom, End, Ran}
use Rattle.trace_reader.specs.Ranges.{LinesFit}
use Rattle.trace_laws.specs.Traces.{BeginsWithLine, BeginsWithNone}
use Rattle.trace_laws.specs.declared.refusal.Cause.{Cause}

-- the run under each list of answers
abbrev pub Runs : Type 0
Runs = List Answer → Ran

-- the run under the answers that these lines name
abbrev pub named_run : Runs → List Line → Ran
named_run whole lines = whole (answers_told lines)

-- the run under the answers that these lines name begins with them
abbrev pub AreFirst : Runs → List Line → Type 0
AreFirst whole lines = GoOnFrom (named_run whole lines).lines lines

-- each answer that these lines name is a legal one
abbrev pub NameLegal : Runs → List Line → Type 0
NameLegal whole lines = AreLegal [] [] (named_run whole lines).log

-- the run under the answers that these lines name has these lines alone, and stops
pub record AreWhole (whole : Runs) (lines : List Line) : Type 0 where
  pub lines_are : (named_run whole lines).lines ≡ lines
  pub stops : (named_run whole lines).end ≢ End.Asking

-- the trace is the text of so many lines, which are the whole run under the answers that they name, each one legal
pub record IsVerified (whole : Runs) (trace : Text) (count : ℕ) : Type 0 where
  pub lines : List Line
  pub fit : LinesFit lines
  pub text : trace ≡ text_of lines
  pub count_is : count ≡ length lines
  pub are_whole : AreWhole whole lines
  pub legal : NameLegal whole lines

-- the next line is the run's, under its own answer too, but not each answer is legal
pub record IsIllegal (whole : Runs) (before : List Line) (rest : Text) : Type 0 where
  pub line : Line
  pub begins : BeginsWithLine rest line
  pub first : AreFirst whole (before ++ line ∷ [])
  pub illegal : ¬ NameLegal whole (before ++ line ∷ [])

-- the next line is another than the run's, also under its own answer
pub record IsOther (whole : Runs) (before : List Line) (rest : Text) : Type 0 where
  pub line : Line
  pub begins : BeginsWithLine rest line
  pub other : ¬ AreFirst whole (before ++ line ∷ [])

-- why the trace, which has these lines and then the rest, is not the run that begins with these lines: there is no rest
-- and the run goes on; there is some and the run has stopped; or, where the run goes on and there is some, this begins
-- with no line, with a line of the run whose answer is not legal, or with another line
abbrev pub IsCause : Runs → List Line → Text → Cause → Type 0
IsCause whole before rest Cause.TooShort = (rest ≡ []) × (¬ AreWhole whole before)
IsCause whole before rest Cause.PastEnd = (rest ≢ []) × AreWhole whole before
IsCause whole before rest Cause.NotALine = (rest ≢ []) × (¬ AreWhole whole before) × BeginsWithNone rest
IsCause whole before rest Cause.NotLegal = (¬ AreWhole whole before) × IsIllegal whole before rest
IsCause whole before rest Cause.OtherLine = (¬ AreWhole whole before) × IsOther whole before rest

-- the lines before this one, counted from 1, begin the run under legal answers; this one is wrong, for this cause
pub record IsWrong (whole : Runs) (trace : Text) (line : ℕ) (cause : Cause) : Type 0 where
  pub before : List Line
  pub rest : Text
  pub fit : LinesFit before
  pub text : trace ≡ text_of before ++ rest
  pub first : AreFirst whole before
  pub legal : NameLegal whole before
  pub line_is : line ≡ length before + 1
  pub cause_is : IsCause whole before rest cause
