-- Moves that a body makes where it stands: what the last of them comes to, and what is left of it.
use Rattle.std.specs.Prelude.{◌≡◌, ℕ, true}
use Rattle.machine.specs.declared.state.Frame.{Frame}
use Rattle.machine.specs.declared.state.Phase.{Phase}
use Rattle.machine.specs.Greenlets.{with_phase}
use Rattle.machine.specs.Landing.{Next}
use Rattle.machine.specs.State.{State}
use Rattle.body_frames.specs.Places.{Came}
use Rattle.hub_engine.specs.declared.stand.Progress.{Progress}
use Rattle.hub_engine.specs.Asking.{IsDeclaredAfter, does_came, fits_came}
use Rattle.hub_engine.specs.Making.{MayMove}
use Rattle.hub_engine.specs.Onward.{MovesTo}
use Rattle.hub_engine.specs.Progress.{MayFinish, next_of}
use Rattle.hub_engine.specs.Ready.{AreDeclared, IsReadyAt}

-- so many moves were made from the body a in the state s, and one more, of which this came; all are counted in t
pub record GoesBy (g n : ℕ) (a : Frame) (s t : State) (came : Came) : Type 0 where
  pub may_move : MayMove g t
  pub fits : fits_came t.scenario came ≡ true
  pub declared : AreDeclared t
  pub after : IsDeclaredAfter g came t
  pub moves : (next : Next) → ((before : Frame) → does_came g came (with_phase g (Phase.Live before) t) ≡ next) → MovesTo g n (with_phase g (Phase.Live a) s) next
  pub ready : (next : Next) → ((before : Frame) → does_came g came (with_phase g (Phase.Live before) t) ≡ next) → IsReadyAt next

-- the hub comes to this by what came of the move, whatever body the greenlet had before it
pub record ComesBy (g : ℕ) (came : Came) (s : State) (p : Progress) (b : Frame) (t : State) : Type 0 where
  pub comes : (before : Frame) → does_came g came (with_phase g (Phase.Live before) s) ≡ next_of p g b t
  pub may : MayFinish p g b t

-- so many moves were made from the body a in the state s, and one more, of which this is left
pub record EndsBy (p : Progress) (g n : ℕ) (a : Frame) (s : State) (b : Frame) (t : State) : Type 0 where
  pub moves : MovesTo g n (with_phase g (Phase.Live a) s) (next_of p g b t)
  pub ready : IsReadyAt (next_of p g b t)
  pub may : MayFinish p g b t
