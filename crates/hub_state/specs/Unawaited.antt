-- Who waits at an object, line by line.
use Rattle.std.specs.Prelude.{ℕ, Bool, ◌||◌, List}
use Rattle.std.specs.List.{list_any}
use Rattle.machine.specs.declared.items.Item.{Item}
use Rattle.hub_items.specs.declared.waits.WaitKind.{WaitKind}
use Rattle.held_items.specs.Waits.{waits_in_line, waits_in_none}

-- somebody waits in the line of this kind
abbrev pub has_line : WaitKind → ℕ → List Item → Bool
has_line kind o items = list_any (λ i. waits_in_line kind o i.delivery) items

-- somebody waits there in no line
abbrev pub has_others : ℕ → List Item → Bool
has_others o items = list_any (λ i. waits_in_none o i.delivery) items

-- somebody waits there in one of the lines, or in none
abbrev pub has_waiters : ℕ → List Item → Bool
has_waiters o items =
    has_line WaitKind.Acquire o items || has_line WaitKind.Lock o items || has_line WaitKind.Put o items || has_line WaitKind.Take o items || has_line WaitKind.Place o items
    || has_line WaitKind.Slot o items || has_line WaitKind.TakeOffer o items || has_others o items
