-- What holds of the fields of a `Found`.
use Rattle.std.specs.Prelude.{◌≤◌, vec_capacity}
use Rattle.hub_state.specs.declared.found.Found.TheInside.{Inside}

-- each list has the room that is told
pub record HasRoom (f : Inside) : Type 0 where
  pub lost : f.room ≤ vec_capacity f.lost
  pub gained : f.room ≤ vec_capacity f.gained
