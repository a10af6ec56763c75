-- How many wait for each thing, and how many of them have a number.
use Rattle.std.specs.Prelude.{◌≡◌, ℕ, ◌+◌, ◌<◌, ◌^◌, ◌&&◌, Bool, List, Option, Some, None, is_some, slice_index_or, length, count_by}
use Rattle.machine.specs.declared.items.Item.{Item}
use Rattle.hub_items.specs.declared.waits.WaitKind.{WaitKind}
use Rattle.held_items.specs.declared.tallies.Tallies.{Tallies}
use Rattle.held_items.specs.declared.tallies.Tally.{Tally}
use Rattle.held_items.specs.Entries.{Entry, flat, index}
use Rattle.held_items.specs.Indexed.{has_key}
use Rattle.held_items.specs.Waits.{waits_in_line, waits_key}

-- how many wait in the line of this kind at the object
abbrev pub waiting_in_line : WaitKind → ℕ → List Entry → ℕ
waiting_in_line kind o es = length (index (waits_in_line kind o) es)

-- how many of them have a number
abbrev pub numbered_in_line : WaitKind → ℕ → List Entry → ℕ
numbered_in_line kind o es = count_by (λ i. is_some i.ready && waits_in_line kind o i.delivery) (flat es)

-- ---- the tallies, by the key of what is waited for

-- the item waits for what has this key
abbrev pub waits_by : ℕ → Item → Bool
waits_by k i = has_key waits_key k i.delivery

-- and it has a number
abbrev pub is_numbered_by : ℕ → Item → Bool
is_numbered_by k i = is_some i.ready && waits_by k i

-- so many of the items wait for it
abbrev pub tally_in : List Entry → ℕ → Tally
tally_in es k = record { waiting = count_by (waits_by k) (flat es); numbered = count_by (is_numbered_by k) (flat es) }

-- nobody waits
abbrev pub no_tally : Tally
no_tally = record { waiting = 0; numbered = 0 }

-- what the table says; where it ends nobody waits
abbrev pub tally_at : List Tally → ℕ → Tally
tally_at table k = slice_index_or table k no_tally

-- the tallies are those of these items
abbrev pub AreTallied : Tallies → List Entry → Type 0
AreTallied x es = (k : ℕ) → tally_at x.table.items k ≡ tally_in es k

-- the key, if there is one, is in the table, and one more can be counted there
abbrev pub HasTally : Tallies → Option ℕ → Type 0
HasTally x None = Unit {0}
HasTally x (Some k) = (k < length x.table.items) × ((tally_at x.table.items k).waiting + 1 < 2 ^ 64)
