-- The commands of the program, of those that words name.
use Rattle.std.specs.Prelude.{Bool, true, false, List, Option, Some, None, option_and_then}
use Rattle.command_words.specs.Words.{Word}
use Rattle.command_words.specs.Words as words
use Rattle.command_words.specs.declared.command.NamedCommand.{NamedCommand}
use Rattle.command_words.specs.declared.command.NamedCommand.TheVariants as named
use Rattle.command_words.specs.declared.command.ServeAnswers.{ServeAnswers}
use Rattle.command_words.specs.declared.command.ServeAnswers.TheVariants.{Application, Jobs, Passing}
use Rattle.command_words.specs.declared.command.ServeOptions.{ServeOptions}
use Rattle.command_words.specs.declared.command.TextCommand.{TextCommand}
use Rattle.command_words.specs.declared.command.TextCommand.TheVariants.{Run, Format}
use Rattle.run_command.specs.Running.{is_native_world}
use Rattle.gv_top.specs.declared.words.OfflineCommand.{OfflineCommand}
use Rattle.gv_top.specs.declared.words.OfflineCommand.TheVariants.{Text, Wsgi, Storm, Verify}

-- the command, if it is built and needs no net
abbrev pub built : NamedCommand → Option OfflineCommand
built (named.Text command) = Some (Text command)
built (named.Wsgi gateway) = Some (Wsgi gateway)
built (named.Serve options) = None
built (named.Storm n) = Some (Storm n)
built (named.Verify check) = Some (Verify check)

-- the command that the words name, if they name one that is built and needs no net
abbrev pub offline_command_of : List Word → Option OfflineCommand
offline_command_of w = option_and_then built (words.command_of w)

-- the options of the command, if it serves connections of a net
abbrev pub serving : NamedCommand → Option ServeOptions
serving (named.Serve options) = Some options
serving command = None

-- the options of the server that the words ask for, if they name `serve`
abbrev pub serve_of : List Word → Option ServeOptions
serve_of w = option_and_then serving (words.command_of w)

-- the command is a run with native workers
abbrev pub is_native_text : TextCommand → Bool
is_native_text (Run options) = is_native_world options.world
is_native_text Format = false

abbrev pub is_native : Option OfflineCommand → Bool
is_native (Some (Text command)) = is_native_text command
is_native command = false

-- such a server has its jobs done by native workers
abbrev pub are_native : ServeAnswers → Bool
are_native (Application gateway) = false
are_native (Jobs workers) = true
are_native (Passing options) = false

abbrev pub is_native_server : Option ServeOptions → Bool
is_native_server (Some options) = are_native options.answers
is_native_server None = false

-- such a server passes its requests on
abbrev pub passes_on : ServeAnswers → Bool
passes_on (Application gateway) = false
passes_on (Jobs workers) = false
passes_on (Passing options) = true

abbrev pub is_passing_server : Option ServeOptions → Bool
is_passing_server (Some options) = passes_on options.answers
is_passing_server None = false

-- the command reads its input
abbrev pub reads_input : Option OfflineCommand → Bool
reads_input None = false
reads_input (Some (Storm n)) = false
reads_input command = true
