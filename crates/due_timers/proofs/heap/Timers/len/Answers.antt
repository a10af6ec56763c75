use Rattle.std.proofs.Common.{ap, subst}
use Rattle.item_places.specs.Items.{Differ}
use Rattle.due_timers.specs.SeenTimers.{items_in}
use Rattle.due_timers.proofs.Timing.{items_differ}
use Rattle.due_timers.proofs.heap.Timers.len.Goals as goal

pub returns-clause-differ : goal.returns-clause-differ
returns-clause-differ c =
    subst (λ l. Differ (items_in l)) (ap (λ v. v.timers) c.self.view_is) (items_differ c.self.inside.heap.items c.self.invariant.tied.apart)
