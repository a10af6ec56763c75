use Rattle.std.proofs.Common.{◌∙◌}
use Rattle.held_items.specs.Entries.{index}
use Rattle.held_items.specs.Indexed.{has_key}
use Rattle.held_items.specs.Waits.{line_column, object_place, waits_in_line, waits_key}
use Rattle.held_items.proofs.Indexing.{index_alike}
use Rattle.held_items.proofs.WaitPlaces.{line_key}
use Rattle.held_items.proofs.indexes.Indexes.previous_waiting.Goals as goal

pub returns : goal.returns
returns c = λ es kind o xs ys a e.
    let place = object_place o (line_column kind) in
    c.before-previous.ensures (λ k. index (has_key waits_key k) es) place xs ys a.waits (index_alike (has_key waits_key place) (waits_in_line kind o) es (line_key kind o) ∙ e)
