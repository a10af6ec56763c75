-- A deadline that stands beside a wait.
use Rattle.std.specs.Prelude.{ℕ, ◌+◌, Bool, if◌then◌else◌}
use Rattle.machine.specs.declared.items.Delivery.{Delivery}
use Rattle.machine.specs.Items.{add_item}
use Rattle.machine.specs.State.{State}

-- the Late of the greenlet is made, whose wait draws the number of its Timeout or not
abbrev pub with_late : ℕ → ℕ → Bool → State → State
with_late g deadline numbered s =
    let t = if numbered then record s { timeouts = s.timeouts + 1 } else s in
    add_item (Delivery.Late g deadline (if numbered then t.timeouts else 0)) t
