-- Where the last line of a text begins, and what is answered where a run departs from a trace.
use Rattle.std.specs.Prelude.{◌≡◌, ◌≤◌, ◌-◌, ◌+◌, ◌⊎◌, ℕ, List, ◌++◌, length, take, drop, slice_index}
use Rattle.gv_values.specs.Texts.{Text}
use Rattle.trace_text.specs.declared.line.Line.{Line}
use Rattle.trace_text.specs.Line.{text_of}
use Rattle.trace_reader.specs.Ranges.{LinesFit}
use Rattle.trace_laws.specs.Seen.{IsSeen}
use Rattle.trace_laws.specs.Reads.{feeds}
use Rattle.trace_laws.specs.declared.refusal.Cause.{Cause}
use Rattle.trace_laws.specs.declared.refusal.TraceRefusal.{TraceRefusal}

-- so many lines stand before this place, which is the beginning, or behind a line feed; and no line feed is behind it
pub record IsLastLine (text : Text) (lines start : ℕ) : Type 0 where
  pub within : start ≤ length text
  pub lines_are : lines ≡ feeds (take start text)
  pub begins : (start ≡ 0) ⊎ (slice_index text (start - 1) ≡ 10)
  pub none : feeds (drop start text) ≡ 0

-- the refusal names this line, and a cause that is seen of what stands from there on, of which so many bytes are matched
pub record Refuses (refusal : TraceRefusal) (line : ℕ) (rest : Text) (matched : ℕ) : Type 0 where
  pub cause : Cause
  pub is : refusal ≡ TraceRefusal.Wrong line cause
  pub seen : IsSeen rest matched cause

-- The matched bytes are these lines and the front of another: that one is refused.
abbrev pub RefusesBehind : Text → ℕ → TraceRefusal → Type 0
RefusesBehind trace matched refusal =
    (before : List Line) (front : Text) → LinesFit before → feeds front ≡ 0 → take matched trace ≡ text_of before ++ front →
    Refuses refusal (length before + 1) (drop (length (text_of before)) trace) (length front)

-- the parts, where such a line stands at this place
abbrev pub parts_at : Text → ℕ → Text × Text
parts_at text place = (take place text, drop 5 (drop place text))
