-- Lines of one form, by what follows their word.
use Rattle.std.specs.Prelude.{Option}
use Rattle.scenario_grammar.specs.declared.phrase.Phrase.{Phrase}
use Rattle.scenario_grammar.specs.declared.phrase.Phrase.TheVariants as phrase
use Rattle.scenario_grammar.specs.Reading.{Reader, ◌<$>◌, ◌<*>◌, expression_at, wait_at, with_at}
use Rattle.scenario_lines.specs.declared.phrase.Killed.{Killed}
use Rattle.scenario_lines.specs.declared.phrase.Killed.TheVariants as killed
use Rattle.scenario_lines.specs.declared.phrase.Said.{Said}
use Rattle.scenario_lines.specs.declared.phrase.Said.TheVariants as said
use Rattle.scenario_tree.specs.declared.tree.Command.TheVariants as command
use Rattle.scenario_tree.specs.declared.tree.Expression.{Expression}
use Rattle.scenario_tree.specs.declared.tree.Wait.{Wait}

-- what a line says of its one expression
abbrev pub said_of : Said → Expression → Phrase
said_of said.If e = phrase.If e
said_of said.While e = phrase.While e
said_of said.Print e = phrase.Command (command.Print e)
said_of said.Return e = phrase.Command (command.Return e)
said_of said.Raise e = phrase.Command (command.Raise e)
said_of said.Start e = phrase.Command (command.Start e)
said_of said.Unlink e = phrase.Command (command.Unlink e)

-- such a line, behind its word
abbrev pub said_at : Said → Reader Phrase
said_at what = said_of what <$> expression_at

-- the line that kills one greenlet, or all of a list
abbrev pub kill_of : Killed → Expression → Option Expression → Wait → Phrase
kill_of killed.One x f w = phrase.Command (command.Kill x f w)
kill_of killed.All x f w = phrase.Command (command.KillAll x f w)

-- such a line, behind its word
abbrev pub killed_at : Killed → Reader Phrase
killed_at whom = kill_of whom <$> expression_at <*> with_at <*> wait_at
