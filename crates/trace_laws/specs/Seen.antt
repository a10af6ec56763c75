-- What is seen of a trace where the run departs from it: what stands from its line on, of which so many bytes are those
-- of the run.
use Rattle.std.specs.Prelude.{◌≡◌, ◌≢◌, ◌<◌, ◌≤◌, ℕ, [], take}
use Rattle.gv_values.specs.declared.job.Answer.{Answer}
use Rattle.gv_values.specs.Texts.{Text}
use Rattle.trace_text.specs.declared.line.Line.{Line}
use Rattle.trace_laws.specs.Traces.{BeginsWithLine, BeginsWithNone}
use Rattle.trace_laws.specs.Reads.{blanks}
use Rattle.trace_laws.specs.declared.refusal.Cause.{Cause}

-- it begins with a turn line, and the bytes of the run reach past the blank behind its number
pub record IsTurnHere (rest : Text) (matched : ℕ) : Type 0 where
  pub number : ℕ
  pub answer : Answer
  pub begins : BeginsWithLine rest (Line.Turn number answer)
  pub far : 2 ≤ blanks (take matched rest)

-- it begins with a line, but not so with a turn line
pub record IsLineHere (rest : Text) (matched : ℕ) : Type 0 where
  pub line : Line
  pub begins : BeginsWithLine rest line
  pub near : (number : ℕ) (answer : Answer) → line ≡ Line.Turn number answer → blanks (take matched rest) < 2

-- the cause, as it is seen
abbrev pub IsSeen : Text → ℕ → Cause → Type 0
IsSeen rest matched Cause.TooShort = rest ≡ []
IsSeen rest matched Cause.PastEnd = ⊥
IsSeen rest matched Cause.NotALine = (rest ≢ []) × BeginsWithNone rest
IsSeen rest matched Cause.NotLegal = IsTurnHere rest matched
IsSeen rest matched Cause.OtherLine = IsLineHere rest matched
