-- What lets a greenlet make items at its move.
use Rattle.std.specs.Prelude.{ℕ}
use Rattle.machine.specs.declared.state.Frame.{Frame}
use Rattle.machine.specs.declared.state.Phase.{Phase}
use Rattle.machine.specs.Greenlets.{with_phase}
use Rattle.machine.specs.State.{State}
use Rattle.hub_requests.specs.Making.{MayMake}

-- it may, with whatever body, where that stands with the hub's step
pub record MayMove (g : ℕ) (s : State) : Type 0 where
  pub any : (frame : Frame) → MayMake g (with_phase g (Phase.Live frame) s)
