-- What contracts see of a table of places.
use Rattle.std.specs.Prelude.{ℕ, List}
use Rattle.item_places.specs.declared.places.Slot.{Slot}

-- the slots of the table, and how many more items fit
pub record SeenPlaces : Type 0 where
  pub slots : List Slot
  pub spare : ℕ
