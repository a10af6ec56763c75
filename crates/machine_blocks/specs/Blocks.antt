-- The block lines of a run. This project's own.
use Rattle.std.specs.Prelude.{Bool, true, false, List}
use Rattle.trace_text.specs.declared.line.Line.{Line}
use Rattle.machine.specs.State.{State}
use Rattle.machine.specs.Questions.{block_line}
use Rattle.machine.specs.Run.{silent}

-- it is a block line
abbrev pub is_block : Line → Bool
is_block (Line.Block x) = true
is_block line = false

-- what the hub says where it blocks
abbrev pub block_lines : State → List Line
block_lines s = (block_line (silent s)).lines
