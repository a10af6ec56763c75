-- Which items go.
use Rattle.std.specs.Prelude.{Bool}
use Rattle.machine.specs.declared.items.Delivery.{Delivery}
use Rattle.machine.specs.Items.{is_wait_of, is_timeout_of, goes_at_end}
use Rattle.machine.specs.Request.{is_link}
use Rattle.hub_items.specs.declared.gone.Gone.{Gone}

abbrev pub gone_of : Gone → Delivery → Bool
gone_of (Gone.WaitOf g) = is_wait_of g
gone_of (Gone.TimeoutsOf g ns) = is_timeout_of g ns
gone_of (Gone.AtEnd g o) = goes_at_end g o
gone_of (Gone.LinkNumbered n) = is_link n
