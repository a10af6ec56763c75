use Rattle.std.proofs.Common.{refl}
use Rattle.held_items.proofs.DueSteps.{line_ready}
use Rattle.held_items.proofs.due.DueLine.ready.Goals as goal

pub returns-clause-line : goal.returns-clause-line
returns-clause-line c = λ m n is free e. line_ready _ _ m n c.args.slot is free e c.push.ensures.chains refl
