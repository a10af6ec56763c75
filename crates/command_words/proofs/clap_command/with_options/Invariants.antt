use Rattle.std.proofs.Common.{◌≡◌, false, drop, map}
use Rattle.clap.specs.Words.{app_of}
use Rattle.clap.specs.declared.builder.command.Command.TheViews.{out-Command}
use Rattle.command_words.specs.Clap.{name_of, with_options}
use Rattle.command_words.proofs.clap_command.with_options.Given as goal

-- with the options that are left, the command is the one with all
abbrev pub invariant-loop-option : goal.invariant-loop-option
invariant-loop-option l =
    (with_options (app_of l.command) (map name_of (drop l.option-index l.options)) ≡ with_options (app_of l.initial.command) (map name_of l.options))
    × ((out-Command l.initial.command).has_globals ≡ false → (out-Command l.command).has_globals ≡ false)
