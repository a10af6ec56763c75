use Rattle.std.proofs.Common.{ap, ◌∙◌, None}
use Rattle.slot_chains.specs.Chained.{first_of}
use Rattle.held_items.specs.Entries.{index}
use Rattle.held_items.specs.Indexed.{has_key}
use Rattle.held_items.specs.Waits.{ends_key, target_place, waits_for}
use Rattle.held_items.proofs.Indexing.{index_alike}
use Rattle.held_items.proofs.WaitPlaces.{target_key}
use Rattle.held_items.proofs.indexes.Indexes.first_for.Goals as goal

pub returns : goal.returns
returns c = λ es a.
    let target = c.args.target in
    c.first.ensures (λ k. index (has_key ends_key k) es) a.ends
    ∙ ap (λ k. first_of (index (has_key ends_key k) es) None) c.target_place.ensures.value
    ∙ ap (λ qs. first_of qs None) (index_alike (has_key ends_key (target_place target)) (waits_for target) es (target_key target))
