-- Room for items.
use Rattle.std.specs.Prelude.{ℕ, ◌+◌, ◌<◌, ◌≤◌, ◌^◌, length}
use Rattle.machine.specs.State.{State}
use Rattle.held_items.specs.declared.limits.TheConstants.{MOST_HELD}

-- so many more items may be made: there are places in order of making for them, and slots
abbrev pub MayAdd : ℕ → State → Type 0
MayAdd n s = (s.next_since + n < 2 ^ 64) × (length s.items + n ≤ MOST_HELD)
