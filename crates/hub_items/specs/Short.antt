-- Waits that end with a list wait for no more than a list may hold.
use Rattle.std.specs.Prelude.{◌≤◌, ◌+◌, ⊤, List, [], ◌∷◌, length}
use Rattle.machine.specs.declared.items.Delivery.{Delivery}
use Rattle.machine.specs.declared.items.Item.{Item}
use Rattle.machine.specs.declared.items.Waiting.{Waiting}
use Rattle.gv_values.specs.declared.limits.TheConstants.{MOST_ELEMENTS}

-- what it ends with fits a list
abbrev pub IsShort : Waiting → Type 0
IsShort (Waiting.JoinAll gs need) = length gs ≤ MOST_ELEMENTS
IsShort (Waiting.MapPlace o f xs made) = length xs + length made ≤ MOST_ELEMENTS
IsShort (Waiting.MapEnd o made) = length made ≤ MOST_ELEMENTS
IsShort w = ⊤

-- so does the wait whose completion is delivered
abbrev pub DeliversShort : Delivery → Type 0
DeliversShort (Delivery.Wake g w) = IsShort w
DeliversShort d = ⊤

-- so it is of all items
abbrev pub AreShort : List Item → Type 0
AreShort [] = ⊤
AreShort (i ∷ items) = record { here : DeliversShort i.delivery; rest : AreShort items }
