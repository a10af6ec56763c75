-- Ready numbers: in order of since, each item that holds and has none gets the next, and one that ceases to hold loses
-- its own. This project's own.
use Rattle.std.specs.Prelude.{ℕ, ◌+◌, Bool, true, false, List, ◌∷◌, Option, Some, None, map}
use Rattle.machine.specs.declared.items.Item.{Item}
use Rattle.machine.specs.State.{State}
use Rattle.machine.specs.Holds.{holds}

-- the item's number after the settling, where the next number is given
abbrev pub settled_ready : Bool → Option ℕ → ℕ → Option ℕ
settled_ready false ready next = None
settled_ready true (Some n) next = Some n
settled_ready true None next = Some next

-- the next number after this item
abbrev pub number_after : Bool → Option ℕ → ℕ → ℕ
number_after true None next = next + 1
number_after true (Some n) next = next
number_after false ready next = next

-- the items, which stand in order of since, after the settling; of each it is said whether it holds
abbrev pub settled : List Bool → ℕ → List Item → List Item
settled (h ∷ hs) next (i ∷ items) = record i { ready = settled_ready h i.ready next } ∷ settled hs (number_after h i.ready next) items
settled hs next items = items

-- the next number after all of them
abbrev pub numbers_after : List Bool → ℕ → List Item → ℕ
numbers_after (h ∷ hs) next (i ∷ items) = numbers_after hs (number_after h i.ready next) items
numbers_after hs next items = next

-- the state after the settling
abbrev pub settle : State → State
settle s =
    let hs = map (holds s) s.items in
    record s { items = settled hs s.next_ready s.items; next_ready = numbers_after hs s.next_ready s.items }
