-- The numbers that commands have.
use Rattle.std.specs.Prelude.{ℕ, ◌≤◌, ◌&&◌, Bool, true, nat_le, Some, None}
use Rattle.command_words.specs.Words.{OptionRow, turns, moves, tick, native, port, conns, pool, idle, jobs, pass, patience, size}
use Rattle.command_words.specs.declared.command.NamedCommand.{NamedCommand}
use Rattle.command_words.specs.declared.command.NamedCommand.TheVariants.{Text, Wsgi, Serve, Storm, Verify}
use Rattle.command_words.specs.declared.command.RunWorld.{RunWorld}
use Rattle.command_words.specs.declared.command.RunWorld.TheVariants.{Script, Native, Held}
use Rattle.command_words.specs.declared.command.ServeAnswers.{ServeAnswers}
use Rattle.command_words.specs.declared.command.ServeAnswers.TheVariants.{Application, Jobs, Passing}
use Rattle.command_words.specs.declared.command.TextCommand.TheVariants.{Run, Format}
use Rattle.command_words.specs.declared.command.TraceCheck.{TraceCheck}

-- the usual number of the option is one that it takes
abbrev pub takes_usual : OptionRow → Bool
takes_usual option = elim option.usual [ Some n ↦ nat_le option.least n && nat_le n option.most | None ↦ true ]

-- the option takes this number
abbrev pub TakesNumber : OptionRow → ℕ → Type 0
TakesNumber option n = (option.least ≤ n) × (n ≤ option.most)

abbrev pub IsWorldInRange : RunWorld → Type 0
IsWorldInRange (Script n) = TakesNumber tick n
IsWorldInRange (Native n) = TakesNumber native n
IsWorldInRange (Held n) = TakesNumber native n

abbrev pub IsCheckInRange : TraceCheck → Type 0
IsCheckInRange (TraceCheck.Run n m) = TakesNumber turns n × TakesNumber moves m
IsCheckInRange TraceCheck.Laws = Unit {0}

abbrev pub AreAnswersInRange : ServeAnswers → Type 0
AreAnswersInRange (Application gateway) = Unit {0}
AreAnswersInRange (Jobs n) = TakesNumber jobs n
AreAnswersInRange (Passing options) = TakesNumber pass options.port × TakesNumber patience options.patience

abbrev pub IsInRange : NamedCommand → Type 0
IsInRange (Text (Run options)) = TakesNumber turns options.turns × TakesNumber moves options.moves × IsWorldInRange options.world
IsInRange (Text Format) = Unit {0}
IsInRange (Wsgi gateway) = Unit {0}
IsInRange (Serve options) = TakesNumber port options.port × TakesNumber conns options.conns × TakesNumber pool options.pool × TakesNumber idle options.idle × AreAnswersInRange options.answers
IsInRange (Storm n) = TakesNumber size n
IsInRange (Verify check) = IsCheckInRange check
