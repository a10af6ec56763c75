-- What reading a line of its text ensures.
use Rattle.std.specs.Prelude.{◌≡◌, ◌≢◌, ◌↔◌, Result, Ok, Err, IsErrOf}
use Rattle.gv_values.specs.Texts.{Text}
use Rattle.trace_text.specs.declared.line.Line.{Line}
use Rattle.trace_text.specs.Line.{line_text}
use Rattle.trace_reader.specs.declared.fault.LineFault.{LineFault}
use Rattle.trace_reader.specs.declared.fault.LineFault.TheVariants as fault
use Rattle.trace_reader.specs.Ranges.{LineFits}

-- no line has this text
abbrev pub IsNoLine : Text → Type 0
IsNoLine text = (l : Line) → LineFits l → line_text l ≢ text

-- the line was read, unless memory ran out
abbrev pub IsRead : Line → Result Line LineFault → Type 0
IsRead line (Ok read) = read ≡ line
IsRead line (Err fault.NotALine) = ⊥
IsRead line (Err fault.Memory) = Unit {0}

-- NotALine exactly where no line has the text, unless memory ran out
abbrev pub IsRefused : Text → Result Line LineFault → Type 0
IsRefused text (Err fault.Memory) = Unit {0}
IsRefused text result = IsErrOf result fault.NotALine ↔ IsNoLine text
