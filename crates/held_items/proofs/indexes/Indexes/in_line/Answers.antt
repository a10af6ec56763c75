use Rattle.std.proofs.Common.{ap, ◌∙◌, None}
use Rattle.slot_chains.specs.Chained.{first_of}
use Rattle.held_items.specs.Entries.{index}
use Rattle.held_items.specs.Indexed.{has_key}
use Rattle.held_items.specs.Waits.{line_column, object_place, waits_in_line, waits_key}
use Rattle.held_items.proofs.Indexing.{index_alike}
use Rattle.held_items.proofs.WaitPlaces.{line_key}
use Rattle.held_items.proofs.indexes.Indexes.in_line.Goals as goal

pub returns : goal.returns
returns c = λ es a.
    let kind = c.args.kind in
    let o = c.args.o in
    c.first.ensures (λ k. index (has_key waits_key k) es) a.waits
    ∙ ap (λ k. first_of (index (has_key waits_key k) es) None) c.in_line.ensures.value
    ∙ ap (λ qs. first_of qs None) (index_alike (has_key waits_key (object_place o (line_column kind))) (waits_in_line kind o) es (line_key kind o))
