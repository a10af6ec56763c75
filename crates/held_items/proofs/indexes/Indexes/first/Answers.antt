use Rattle.std.proofs.Common.{◌∙◌, ap, sym, None}
use Rattle.slot_chains.specs.Chained.{first_of}
use Rattle.held_items.specs.declared.classes.ClassPlace.{ClassPlace}
use Rattle.held_items.specs.Classes.{is_at}
use Rattle.held_items.specs.Indexed.{has_key, common_key, rare_key}
use Rattle.held_items.specs.Entries.{index}
use Rattle.held_items.proofs.Indexing.{index_alike, common_is, rare_is}
use Rattle.held_items.proofs.indexes.Indexes.first.Goals as goal

pub returns-in-Common : goal.returns-in-Common
returns-in-Common c = λ es a.
    let n = c.in-Common.n in
    c.first.ensures (λ k. index (has_key common_key k) es) a.common
    ∙ ap (λ qs. first_of qs None) (index_alike (has_key common_key n) (is_at (ClassPlace.Common n)) es (common_is n) ∙ ap (λ p. index (is_at p) es) (sym c.in-Common.is))

pub returns-in-Rare : goal.returns-in-Rare
returns-in-Rare c = λ es a.
    let n = c.in-Rare.n in
    c.first-in-Rare.ensures (λ k. index (has_key rare_key k) es) a.rare
    ∙ ap (λ qs. first_of qs None) (index_alike (has_key rare_key n) (is_at (ClassPlace.Rare n)) es (rare_is n) ∙ ap (λ p. index (is_at p) es) (sym c.in-Rare.is))
