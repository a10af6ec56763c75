use Rattle.std.proofs.Common.{ap, ◌∙◌}
use Rattle.std.proofs.lemmas.Result.{IfOk-weaker}
use Rattle.command_words.specs.Clap.{with_commands}
use Rattle.command_words.specs.Words.{commands}
use Rattle.command_words.proofs.clap_command.program.Goals as goal

pub returns : goal.returns
returns c = IfOk-weaker c.with_commands.result _ _ (λ r e. e ∙ ap (λ a. with_commands a commands) c.top.ensures) c.with_commands.ensures
