use Rattle.std.proofs.Common.{◌≡◌, drop, map}
use Rattle.clap.specs.Words.{app_of}
use Rattle.command_words.specs.Clap.{command_row, with_commands}
use Rattle.command_words.proofs.clap_command.with_commands.Given as goal

-- with the commands that are left, the program is the one with all
abbrev pub invariant-loop-row : goal.invariant-loop-row
invariant-loop-row l =
    with_commands (app_of l.program) (map command_row (drop l.row-index l.rows)) ≡ with_commands (app_of l.initial.program) (map command_row l.rows)
