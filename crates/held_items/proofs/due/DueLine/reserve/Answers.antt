use Rattle.std.proofs.Common.{refl}
use Rattle.held_items.proofs.DueSteps.{line_longer}
use Rattle.held_items.proofs.due.DueLine.reserve.Goals as goal

pub returns-clause-line : goal.returns-clause-line
returns-clause-line c = λ m is. line_longer _ _ m c.reserve.ensures.chains refl is
