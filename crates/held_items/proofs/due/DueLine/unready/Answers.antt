use Rattle.std.proofs.Common.{refl}
use Rattle.held_items.proofs.DueSteps.{line_room, line_unready}
use Rattle.held_items.proofs.due.DueLine.unready.Goals as goal

pub remove-requires-clause-key : goal.remove-requires-clause-key
remove-requires-clause-key c = let r = c.requires in (line_room _ r.0 c.args.slot r.1 r.2).0

pub remove-requires-clause-slot : goal.remove-requires-clause-slot
remove-requires-clause-slot c = let r = c.requires in (line_room _ r.0 c.args.slot r.1 r.2).1

pub returns-clause-line : goal.returns-clause-line
returns-clause-line c = λ m n is some e. line_unready _ _ m n c.args.slot is some e c.remove.ensures.chains refl
