-- Moves of a greenlet one after another, with nothing to give out and nothing to settle between them.
use Rattle.std.specs.Prelude.{◌≡◌, ◌+◌, ℕ, zero, suc, false}
use Rattle.machine.specs.Holds.{is_done}
use Rattle.machine.specs.Landing.{Next}
use Rattle.machine.specs.Moves.{move}
use Rattle.machine.specs.Run.{silent}
use Rattle.machine.specs.Settle.{settle}
use Rattle.machine.specs.State.{State}

-- after so many moves, each of which leaves the greenlet at its next one and says and posts nothing, it comes to this by
-- one more
abbrev pub MovesTo : ℕ → ℕ → State → Next → Type 0
MovesTo g zero s next = move g s ≡ next
MovesTo g (suc n) s next = (t : State) × (move g s ≡ Next.Going g t) × (t ≡ silent t) × MovesTo g n t next

-- whatever the greenlet comes to from the one state, it comes to from the other after so many moves more
abbrev pub LeadsOn : ℕ → ℕ → State → State → Type 0
LeadsOn g n s t = (k : ℕ) (next : Next) → MovesTo g k t next → MovesTo g (n + k) s next

-- a settling changes nothing, and the greenlet has not ended
pub record IsAtRest (g : ℕ) (s : State) : Type 0 where
  pub settled : settle s ≡ s
  pub going : is_done s g ≡ false
