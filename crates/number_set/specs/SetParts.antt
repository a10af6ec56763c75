-- What holds of the fields of a `NumberSet`.
use Rattle.std.specs.Prelude.{◌≡◌, ℕ, ◌≤◌, Bool, false, List, length, slice_index_or, vec_capacity}
use Rattle.item_places.specs.Items.{Differ}
use Rattle.number_set.specs.Sets.{is_among}
use Rattle.number_set.specs.declared.set.NumberSet.TheInside.{Inside}

-- the numbers are different, and just these have a mark
pub record AreMarked (is_in : List Bool) (ks : List ℕ) : Type 0 where
  pub differ : Differ ks
  pub marks : (k : ℕ) → slice_index_or is_in k false ≡ is_among k ks

-- so it is, and the list has a place for each number that may come
pub record IsSound (r : Inside) : Type 0 where
  pub marked : AreMarked r.is_in.items r.list.items
  pub capacity : length r.is_in.items ≤ vec_capacity r.list
