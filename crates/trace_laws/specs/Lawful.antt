-- When a trace is the text of lines that meet the laws, and else where and why it is not. This project's own.
use Rattle.std.specs.Prelude.{◌≡◌, ◌≢◌, ℕ, ◌+◌, true, List, [], ◌∷◌, ◌++◌, Some, length, Bool, false, Option, None}
use Rattle.gv_values.specs.Texts.{Text}
use Rattle.machine.specs.TraceLaws.{meets_laws, each_line, ends_once, jobs_done_once, links_after_end, moments_rise, nothing_after_end, throws_at_parked}
use Rattle.trace_text.specs.declared.line.Line.{Line}
use Rattle.trace_text.specs.Line.{text_of}
use Rattle.trace_reader.specs.Ranges.{LinesFit}
use Rattle.trace_laws.specs.Traces.{BeginsWithLine, BeginsWithNone}

-- the trace is the text of lines, so many, which meet the laws
pub record IsLawful (trace : Text) (count : ℕ) : Type 0 where
  pub lines : List Line
  pub fit : LinesFit lines
  pub text : trace ≡ text_of lines
  pub count_is : count ≡ length lines
  pub lawful : meets_laws lines ≡ true

-- The lines before this one, counted from 1, meet the laws, and the trace goes on with what begins with no line.
pub record IsUnread (trace : Text) (line : ℕ) : Type 0 where
  pub before : List Line
  pub rest : Text
  pub fit : LinesFit before
  pub text : trace ≡ text_of before ++ rest
  pub lawful : meets_laws before ≡ true
  pub line_is : line ≡ length before + 1
  pub some : rest ≢ []
  pub none : BeginsWithNone rest

-- the number of the first that is false
abbrev pub first_false : Bool → Bool → Bool → Bool → Bool → Bool → Option ℕ
first_false false b c d e f = Some 1
first_false true false c d e f = Some 2
first_false true true false d e f = Some 3
first_false true true true false e f = Some 4
first_false true true true true false f = Some 5
first_false true true true true true false = Some 6
first_false true true true true true true = None

-- the least law that the lines break, if they break any
abbrev pub broken_law : List Line → Option ℕ
broken_law lines =
    first_false (each_line ends_once [] lines) (each_line nothing_after_end [] lines) (each_line throws_at_parked [] lines) (each_line links_after_end [] lines)
    (each_line moments_rise [] lines) (each_line jobs_done_once [] lines)

-- The lines before this one, counted from 1, meet the laws; with it they break this law, and none of a lower number.
pub record IsLawless (trace : Text) (line law : ℕ) : Type 0 where
  pub before : List Line
  pub next : Line
  pub rest : Text
  pub fit : LinesFit before
  pub text : trace ≡ text_of before ++ rest
  pub lawful : meets_laws before ≡ true
  pub line_is : line ≡ length before + 1
  pub begins : BeginsWithLine rest next
  pub breaks : broken_law (before ++ next ∷ []) ≡ Some law
