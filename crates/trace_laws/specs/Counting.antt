-- Lines of a trace that were counted, one after another.
use Rattle.std.specs.Prelude.{◌≡◌, ℕ, List, [], ◌∷◌, ◌++◌, Some, length, Result, Ok, Err}
use Rattle.gv_values.specs.Texts.{Text}
use Rattle.trace_text.specs.declared.line.Line.{Line}
use Rattle.trace_text.specs.Line.{text_of}
use Rattle.trace_reader.specs.Ranges.{LinesFit}
use Rattle.trace_laws.specs.Kept.{StandsFor}
use Rattle.trace_laws.specs.Lawful.{broken_law}
use Rattle.trace_laws.specs.Traces.{BeginsWithLine, BeginsWithNone}
use Rattle.trace_laws.specs.Reads.{BeginsAt}
use Rattle.trace_laws.specs.declared.laws.LawRefusal.{LawRefusal}
use Rattle.trace_laws.specs.declared.laws.Laws.{Laws}
use Rattle.trace_laws.specs.declared.lawful.Uncounted.{Uncounted}
use Rattle.trace_laws.specs.declared.lawful.LawlessTrace.{LawlessTrace}

-- the fault that a refusal is
abbrev pub fault_of : LawRefusal → Uncounted
fault_of (LawRefusal.Broken law) = Uncounted.Broken law
fault_of LawRefusal.Memory = Uncounted.Memory

-- what is answered where this line was not counted
abbrev pub lawless_trace : Uncounted → ℕ → LawlessTrace
lawless_trace Uncounted.NotALine line = LawlessTrace.NotALine line
lawless_trace (Uncounted.Broken law) line = LawlessTrace.Broken line law
lawless_trace Uncounted.Memory line = LawlessTrace.Memory

-- The line that the text begins with was counted after these, and the next one stands at this place; or it breaks this
-- law; or the text begins with none.
abbrev pub IsCountedFirst : Text → List Line → Laws → Result ℕ Uncounted → Type 0
IsCountedFirst text lines laws (Ok next) = (line : Line) × BeginsAt text line next × StandsFor laws (lines ++ line ∷ [])
IsCountedFirst text lines laws (Err Uncounted.NotALine) = BeginsWithNone text
IsCountedFirst text lines laws (Err (Uncounted.Broken law)) = (line : Line) × BeginsWithLine text line × (broken_law (lines ++ line ∷ []) ≡ Some law)
IsCountedFirst text lines laws (Err Uncounted.Memory) = Unit {0}

-- so many lines were read off the front of a text, and what is kept of them is this
pub record HasCounted (text rest : Text) (count : ℕ) (laws : Laws) : Type 0 where
  pub lines : List Line
  pub fit : LinesFit lines
  pub is : text ≡ text_of lines ++ rest
  pub count_is : count ≡ length lines
  pub stands : StandsFor laws lines
