-- The offers of channels, and the Wakes that wait until they are taken. This project's own.
use Rattle.std.specs.Prelude.{ℕ, ◌==◌, Bool, false, not, ◌&&◌, List, [], slice_get, unwrap_or}
use Rattle.machine.specs.declared.items.Delivery.{Delivery}
use Rattle.machine.specs.declared.items.Item.{Item}
use Rattle.machine.specs.declared.items.Waiting.{Waiting}
use Rattle.machine.specs.declared.state.Object.{Object}
use Rattle.machine.specs.declared.state.Offer.{Offer}
use Rattle.machine.specs.Objects.{no_object}
use Rattle.machine.specs.Questions.{is_numbered}

-- the offers of a channel
abbrev pub offers_of : Object → List Offer
offers_of (Object.Channel offers) = offers
offers_of object = []

-- the offers of the channel of this number
abbrev pub offers_at : ℕ → List Object → List Offer
offers_at o objects = offers_of (unwrap_or (slice_get objects o) no_object)

-- it is the Wake of a greenlet that offered something on this channel
abbrev pub is_offered_on : ℕ → Delivery → Bool
is_offered_on o (Delivery.Wake g (Waiting.Offered p)) = o == p
is_offered_on o d = false

-- it is such a Wake with this since, and it has no ready number
abbrev pub awaits_taking : ℕ → ℕ → Item → Bool
awaits_taking o since i = i.since == since && is_offered_on o i.delivery && not (is_numbered i)
