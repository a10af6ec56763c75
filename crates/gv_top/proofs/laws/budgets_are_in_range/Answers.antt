use Rattle.gv_top.proofs.Built.{are_budgets}
use Rattle.gv_top.proofs.laws.budgets_are_in_range.Goals as goal

pub returns : goal.returns
returns c = λ words options e. are_budgets (λ w command named. c.commands_are_in_range.ensures w command named) words options e
