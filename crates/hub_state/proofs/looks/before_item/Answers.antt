use Rattle.std.proofs.Common.{length}
use Rattle.held_items.specs.Entries.{flat}
use Rattle.hub_state.proofs.Alongs.{wait_before}
use Rattle.hub_state.proofs.Classes.{none_before}
use Rattle.hub_state.proofs.looks.before_item.Goals as goal

pub returns-in-Wake : goal.returns-in-Wake
returns-in-Wake c = λ s same. wait_before s (flat c.args.held.now.entries) c.earlier_ahead.result c.args.item.now.since _ _ c.args.item.now.delivery c.in-Wake.is same (c.earlier_ahead.ensures (length s.objects))

pub returns-in_default : goal.returns-in_default
returns-in_default c = λ s same. none_before s c.args.item.now.since c.args.item.now.delivery c.in_default.not-Wake
