-- Inputs that are checked: how long they may be, and their last line.
use Rattle.std.specs.Prelude.{ℕ, ◌+◌, ◌-◌, List, length}
use Rattle.scenario_grammar.specs.Place.{line_at}
use Rattle.trace_check.specs.declared.inputs.TheConstants.{MOST_CHECKED}

-- the most bytes that are read of an input: one more than it may have
abbrev pub most_checked_read : ℕ
most_checked_read = MOST_CHECKED + 1

-- the number of the last line: that of the last byte, and 1 where there is none
abbrev pub end_line : List ℕ → ℕ
end_line bytes = line_at (length bytes - 1) bytes
