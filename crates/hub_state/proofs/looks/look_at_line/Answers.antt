use Rattle.held_items.specs.Waits.{waits_in_line}
use Rattle.hub_state.specs.Over.{whole}
use Rattle.hub_state.proofs.SettledLines.{line_settled}
use Rattle.hub_state.proofs.looks.look_at_line.Goals as goal

pub returns-then-is_settled : goal.returns-then-is_settled
returns-then-is_settled c = line_settled (waits_in_line c.args.kind c.args.o) (whole c.args.base.now c.args.held.now) c.args.held.now.entries c.args.found.now (c.is_settled.ensures c.if-is_settled.true)
