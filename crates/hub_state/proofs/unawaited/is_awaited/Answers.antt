use Rattle.std.proofs.Common.{◌∙◌}
use Rattle.held_items.specs.Entries.{flat}
use Rattle.hub_state.proofs.Awaiting.{any_waiting}
use Rattle.hub_state.proofs.unawaited.is_awaited.Goals as goal

pub returns : goal.returns
returns c = c.has_waiters.ensures ∙ any_waiting c.args.o (flat c.args.held.now.entries)
