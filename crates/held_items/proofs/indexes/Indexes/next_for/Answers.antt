use Rattle.std.proofs.Common.{◌∙◌}
use Rattle.held_items.specs.Entries.{index}
use Rattle.held_items.specs.Indexed.{has_key}
use Rattle.held_items.specs.Waits.{ends_key, target_place, waits_for}
use Rattle.held_items.proofs.Indexing.{index_alike}
use Rattle.held_items.proofs.WaitPlaces.{target_key}
use Rattle.held_items.proofs.indexes.Indexes.next_for.Goals as goal

pub returns : goal.returns
returns c = λ es target xs ys a e.
    let place = target_place target in
    c.after.ensures (λ k. index (has_key ends_key k) es) place xs ys a.ends (index_alike (has_key ends_key place) (waits_for target) es (target_key target) ∙ e)
