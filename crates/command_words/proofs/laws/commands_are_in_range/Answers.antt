use Rattle.command_words.proofs.InRange.{in_range}
use Rattle.command_words.proofs.laws.commands_are_in_range.Goals as goal

pub returns : goal.returns
returns c = λ words command e. in_range words command e
