-- What the text of a line tells of it.
use Rattle.std.specs.Prelude.{◌≡◌, [], Some}
use Rattle.trace_text.specs.declared.line.Line.{Line}
use Rattle.trace_text.specs.Line.{line_text}
use Rattle.trace_reader.specs.Ranges.{LineFits}
use Rattle.trace_reader.specs.LineFronts.{line_front}

-- different lines have different texts
abbrev pub TextsDiffer : Type 0
TextsDiffer = (l m : Line) → LineFits l → LineFits m → line_text l ≡ line_text m → l ≡ m

-- a line is read of its text, to the end
abbrev pub TextsAreRead : Type 0
TextsAreRead = (l : Line) → LineFits l → line_front (line_text l) ≡ Some (l, [])
