use Rattle.held_items.proofs.DueSteps.{line_none}
use Rattle.held_items.proofs.due.DueLine.new.Goals as goal

pub returns-clause-line : goal.returns-clause-line
returns-clause-line c = λ m none. line_none _ m c.new.ensures none
