-- A turn delivers every item that has a number below its mark. This project's own.
use Rattle.std.specs.Prelude.{◌≡◌, ℕ, true, None}
use Rattle.machine.specs.State.{State}
use Rattle.machine.specs.Landing.{Next}
use Rattle.machine.specs.Run.{least_below, turn}
use Rattle.machine.specs.Soundness.{ascend}

-- where the hub rests, no item has a number below the mark
abbrev pub LeavesNone : ℕ → Next → Type 0
LeavesNone mark (Next.Resting s) = least_below mark s.items ≡ None
LeavesNone mark next = Unit {0}

-- in a state whose items stand in order of since
abbrev pub TurnsDeliverAll : Type 0
TurnsDeliverAll = (budget : ℕ) (s : State) → ascend 0 s.next_since s.items ≡ true → LeavesNone s.next_ready (turn budget s).next
