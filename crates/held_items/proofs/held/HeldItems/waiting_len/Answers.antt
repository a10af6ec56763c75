use Rattle.std.proofs.Common.{◌≤◌, subst, arith}
use Rattle.std.specs.Prelude.{count_by}
use Rattle.held_items.specs.Entries.{SeenItems, flat}
use Rattle.held_items.specs.Lined.{is_waiting}
use Rattle.held_items.proofs.Momentary.{few_waiting}
use Rattle.held_items.proofs.held.HeldItems.waiting_len.Goals as goal

pub returns : goal.returns
returns c =
    let few = few_waiting c.self.inside.lines.timers.timers c.self.inside.shelf.entries c.self.invariant.differ c.self.invariant.lined.timers in
    let all = c.len.ensures.len in
    subst (λ (s : SeenItems). count_by is_waiting (flat s.entries) ≤ c.len.result) c.self.view_is (omega (arith, few, all))
