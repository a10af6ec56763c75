use Rattle.held_items.specs.Waits.{waits_in_none}
use Rattle.hub_state.proofs.Awaiting.{any_indexed}
use Rattle.hub_state.proofs.unawaited.has_others.Goals as goal

pub returns : goal.returns
returns c = any_indexed (waits_in_none c.args.o) c.args.held.now.entries c.first_of_others.result c.is_some.result c.first_of_others.ensures c.is_some.ensures
