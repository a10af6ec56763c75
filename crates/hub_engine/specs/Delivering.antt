-- What is delivered.
use Rattle.std.specs.Prelude.{ℕ, Option, Some, None, ⊤}
use Rattle.gv_values.specs.declared.value.Outcome.{Outcome}
use Rattle.machine.specs.declared.items.Delivery.{Delivery}
use Rattle.machine.specs.declared.items.Waiting.{Waiting}
use Rattle.machine.specs.Deliveries.{without_wait}
use Rattle.machine.specs.State.{State}
use Rattle.machine.specs.Waits.{late_outcome}
use Rattle.hub_requests.specs.Making.{MayMake}

-- what the wait gives where its time is over, if there is one
abbrev pub late_answer : ℕ → State → Option Waiting → Option Outcome
late_answer n s None = None
late_answer n s (Some w) = Some (late_outcome w n s)

-- a greenlet that wakes may go on
abbrev pub IsDelivered : Delivery → State → Type 0
IsDelivered (Delivery.Wake g w) s = MayMake g (without_wait g s)
IsDelivered d s = ⊤
