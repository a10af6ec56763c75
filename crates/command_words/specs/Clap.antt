-- The command of `clap` that reads the words, and what its matches ask for.
use Rattle.std.specs.Prelude.{◌&&◌, Bool, true, not, is_some, if◌then◌else◌, List, [], ◌∷◌, map, Option, Some, None, option_and_then, codes}
use Rattle.clap.specs.Walk.{Row, Rule, Text, first_of, is_empty}
use Rattle.clap.specs.Simple.{App, Shape, new_app, new_rule, subcommand_of, with_rule, with_subcommand}
use Rattle.clap.specs.Faults.{fault_of}
use Rattle.clap.specs.declared.builder.action.ArgAction.TheVariants.{Set}
use Rattle.command_words.specs.declared.command.NamedCommand.{NamedCommand}
use Rattle.command_words.specs.declared.table.CommandOption.{CommandOption}
use Rattle.command_words.specs.declared.table.CommandOption.TheVariants.{Number, Gateway, Order, Check}
use Rattle.command_words.specs.declared.table.CommandRow.{CommandRow as DeclaredCommandRow}
use Rattle.command_words.specs.declared.table.NumberOption.{NumberOption}
use Rattle.command_words.specs.Words.{CommandRow, OptionRow, Word, begins_with_dash, command_by, commands, option_word}

-- a row of the code's table
abbrev pub option_row : NumberOption → OptionRow
option_row o = record { name = o.name.now; least = o.least; most = o.most; usual = o.usual }

abbrev pub name_of : CommandOption → Word
name_of (Number o) = o.name.now
name_of (Gateway name) = name.now
name_of (Order name) = name.now
name_of (Check name) = name.now

abbrev pub command_row : DeclaredCommandRow → CommandRow
command_row c = record { name = c.name.now; options = map name_of c.options.now }

-- an option of one value
abbrev pub option_rule : Word → Rule
option_rule name = record (new_rule name) { long = Some name; action = Some Set }

-- a command with the options of these names more
abbrev pub with_options : App → List Word → App
with_options a [] = a
with_options a (name ∷ names) = with_options (with_rule a (option_rule name)) names

abbrev pub leaf : CommandRow → Shape
leaf row = (with_options (new_app row.name) row.options).top

-- the program without its commands
abbrev pub top : App
top = record (new_app (codes "gvr")) {
  top = record (new_app (codes "gvr")).top {
    no_binary_name = true;
    disable_help_flag = true;
    disable_help_subcommand = true;
    subcommand_required = true;
  };
}

-- the program with these commands more
abbrev pub with_commands : App → List CommandRow → App
with_commands a [] = a
with_commands a (row ∷ rows) = with_commands (with_subcommand a (leaf row)) rows

abbrev pub program : App
program = with_commands top commands

-- the command of what a parse entered
abbrev pub command_in : Option (Text × List Row) → Option NamedCommand
command_in = option_and_then (λ p. command_by p.0 (λ name. first_of name p.1))

-- the command that `clap` finds in the words
abbrev pub by_clap : List Text → Option NamedCommand
by_clap words = if is_empty (fault_of program words) then command_in (subcommand_of program words) else None

-- the word begins with `-` and is no `--name`: `--`, `-`, or a short option
abbrev pub is_stray : Word → Bool
is_stray word = begins_with_dash word && not (is_some (option_word word))
