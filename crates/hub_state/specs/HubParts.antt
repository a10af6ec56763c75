-- What holds of the fields of a `Hub`.
use Rattle.std.specs.Prelude.{◌≤◌, length}
use Rattle.machine.specs.State.{State}
use Rattle.hub_state.specs.Over.{whole}
use Rattle.hub_state.specs.Touched.{IsKept}
use Rattle.hub_state.specs.declared.hub.Hub.TheInside.{Inside}

-- the state of the machine that the fields make
abbrev pub state_of : Inside → State
state_of h = whole h.base h.held

-- the items are sound and up to date, and a settling has room for each
pub record IsHub (h : Inside) : Type 0 where
  pub kept : IsKept h.held h.touched (state_of h)
  pub room : length h.held.entries ≤ h.found.room
