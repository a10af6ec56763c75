use Rattle.std.proofs.lemmas.Result.{IfOk-weaker}
use Rattle.command_words.proofs.Adding.{stays_local}
use Rattle.command_words.proofs.clap_command.with_option.Goals as goal

pub returns-clause-local : goal.returns-clause-local
returns-clause-local c = IfOk-weaker c.arg.result _ _ (λ r adds. stays_local _ _ _ adds c.option.ensures.local) c.arg.ensures
