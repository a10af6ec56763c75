-- The one list of items: one comes as the newest, and some go. This project's own.
use Rattle.std.specs.Prelude.{ℕ, ◌+◌, ◌==◌, Bool, false, not, ◌&&◌, List, [], ◌∷◌, None, ◌++◌, filter}
use Rattle.std.specs.List.{list_any}
use Rattle.gv_values.specs.declared.value.Outcome.{Outcome}
use Rattle.machine.specs.declared.items.Delivery.{Delivery}
use Rattle.machine.specs.State.{State}
use Rattle.gv_values.specs.Ends.{link_fits}

-- the items with one more, the newest
abbrev pub add_item : Delivery → State → State
add_item d s = record s { items = s.items ++ record { since = s.next_since; delivery = d; ready = None } ∷ []; next_since = s.next_since + 1 }

-- the items without those that the test names
abbrev pub drop_items : (Delivery → Bool) → State → State
drop_items test s = record s { items = filter (λ i. not (test i.delivery)) s.items }

-- it is the Wake or Late of the greenlet
abbrev pub is_wait_of : ℕ → Delivery → Bool
is_wait_of g (Delivery.Wake h w) = g == h
is_wait_of g (Delivery.Late h deadline n) = g == h
is_wait_of g _ = false

-- it is a timeout of the greenlet with one of these numbers
abbrev pub is_timeout_of : ℕ → List ℕ → Delivery → Bool
is_timeout_of g ns (Delivery.Timeout h n deadline) = (g == h) && list_any (λ m. m == n) ns
is_timeout_of g ns _ = false

-- it starts the greenlet
abbrev pub is_start_of : ℕ → Delivery → Bool
is_start_of g (Delivery.Start h deadline) = g == h
is_start_of g _ = false

-- what goes at the end of the greenlet: its items but for its links, and the links that don't fit
abbrev pub goes_at_end : ℕ → Outcome → Delivery → Bool
goes_at_end g o (Delivery.Start h deadline) = g == h
goes_at_end g o (Delivery.Wake h w) = g == h
goes_at_end g o (Delivery.Late h deadline n) = g == h
goes_at_end g o (Delivery.Timeout h n deadline) = g == h
goes_at_end g o (Delivery.Kill h f) = g == h
goes_at_end g o (Delivery.Link k h kind f) = (g == h) && not (link_fits kind o)
