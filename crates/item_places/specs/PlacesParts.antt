-- What holds of the fields of `Places`.
use Rattle.std.specs.Prelude.{◌≡◌, ◌+◌, ◌<◌, ◌≤◌, length, [], count_by}
use Rattle.item_places.specs.declared.places.Places.TheInside.{Inside}
use Rattle.item_places.specs.Table.{IsTable, is_held}

-- the slots are a table, and its twin is as long
pub record IsPlaces (p : Inside) : Type 0 where
  pub table : IsTable p.slots.items p.homes p.free
  pub count : p.len ≡ count_by is_held p.slots.items
  pub within : p.len ≤ p.limit
  pub size : 0 < p.limit → p.homes + p.limit < length p.slots.items
  pub some_home : 0 < p.limit → 0 < p.homes
  pub bare : p.homes ≡ 0 → p.slots.items ≡ []
  pub twin : length p.twin.items ≡ length p.slots.items
