-- Lines that are read off the front of a trace.
use Rattle.std.specs.Prelude.{◌≡◌, ◌==◌, ◌≤◌, ℕ, Bool, List, ◌∷◌, ◌++◌, drop, filter, length}
use Rattle.gv_values.specs.declared.job.Answer.{Answer}
use Rattle.gv_values.specs.Texts.{Text}
use Rattle.trace_text.specs.declared.line.Line.{Line}
use Rattle.trace_text.specs.Line.{answers_told, line_text, text_of}
use Rattle.trace_reader.specs.Ranges.{LineFits, LinesFit}
use Rattle.trace_laws.specs.declared.reading.FirstLine.{FirstLine}
use Rattle.trace_laws.specs.Traces.{BeginsWithNone}

-- the text begins with this line, and the next one stands at this place
pub record BeginsAt (text : Text) (line : Line) (next : ℕ) : Type 0 where
  pub fits : LineFits line
  pub within : next ≤ length text
  pub is : text ≡ line_text line ++ 10 ∷ drop next text

-- the line is a turn line with this answer, or another line; the next one stands at this place
abbrev pub IsLine : Line → ℕ → FirstLine → Type 0
IsLine line next FirstLine.None = ⊥
IsLine line next (FirstLine.Turn answer place) = ((number : ℕ) × (line ≡ Line.Turn number answer)) × (place ≡ next)
IsLine line next (FirstLine.Other place) = ((number : ℕ) (answer : Answer) → ¬ (line ≡ Line.Turn number answer)) × (place ≡ next)

-- what a text begins with: no line, a turn line with this answer, or another line
abbrev pub IsFirst : Text → FirstLine → Type 0
IsFirst text FirstLine.None = BeginsWithNone text
IsFirst text (FirstLine.Turn answer next) = (number : ℕ) × BeginsAt text (Line.Turn number answer) next
IsFirst text (FirstLine.Other next) = (line : Line) × BeginsAt text line next × ((number : ℕ) (answer : Answer) → ¬ (line ≡ Line.Turn number answer))

-- the turn lines of the text name these answers, up to the first line that is none
pub record NamesAnswers (text : Text) (answers : List Answer) : Type 0 where
  pub lines : List Line
  pub rest : Text
  pub fit : LinesFit lines
  pub is : text ≡ text_of lines ++ rest
  pub none : BeginsWithNone rest
  pub answers_are : answers ≡ answers_told lines

-- lines were read off the front of a text, and name these answers
pub record HasRead (text rest : Text) (answers : List Answer) : Type 0 where
  pub lines : List Line
  pub fit : LinesFit lines
  pub is : text ≡ text_of lines ++ rest
  pub answers_are : answers ≡ answers_told lines

abbrev pub is_feed : ℕ → Bool
is_feed b = b == 10

-- how many line feeds a text has
abbrev pub feeds : Text → ℕ
feeds text = length (filter is_feed text)

abbrev pub is_blank : ℕ → Bool
is_blank b = b == 32

-- how many blanks a text has
abbrev pub blanks : Text → ℕ
blanks text = length (filter is_blank text)
