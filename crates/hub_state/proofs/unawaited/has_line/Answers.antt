use Rattle.held_items.specs.Waits.{waits_in_line}
use Rattle.hub_state.proofs.Awaiting.{any_indexed}
use Rattle.hub_state.proofs.unawaited.has_line.Goals as goal

pub returns : goal.returns
returns c = any_indexed (waits_in_line c.args.kind c.args.o) c.args.held.now.entries c.first_in_line.result c.is_some.result c.first_in_line.ensures c.is_some.ensures
