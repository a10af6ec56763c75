-- What lets a greenlet make items at its move.
use Rattle.std.specs.Prelude.{ℕ}
use Rattle.machine.specs.Landing.{Next}
use Rattle.machine.specs.State.{State}
use Rattle.machine_soundness.specs.Going.{IsSoundAt}

-- the state is sound, and the greenlet is under way in it
pub record MayMake (g : ℕ) (s : State) : Type 0 where
  pub sound : IsSoundAt (Next.Going g s)
