-- The line of the slots with a ready number.
use Rattle.std.specs.Prelude.{◌≡◌, ℕ, ◌+◌, ◌<◌, ◌≤◌, ◌==◌, List, [], ◌∷◌, length, Option, Some, if◌then◌else◌}
use Rattle.std.specs.List.{Contains}
use Rattle.item_places.specs.Items.{items_of}
use Rattle.slot_chains.specs.Chained.{AreChains}
use Rattle.held_items.specs.declared.due.DueLine.{DueLine}

-- one chain alone
abbrev pub only : List ℕ → ℕ → List ℕ
only qs k = if k == 0 then qs else []

-- just these slots have numbers, and these
pub record AreDue (line : List (ℕ × ℕ)) (m : ℕ → Option ℕ) : Type 0 where
  pub has : (q n : ℕ) → m q ≡ Some n → Contains line (q, n)
  pub only : (q n : ℕ) → Contains line (q, n) → m q ≡ Some n

-- the numbers rise, from low on and below high
abbrev pub IsRising : ℕ → List (ℕ × ℕ) → ℕ → Type 0
IsRising low [] high = low ≤ high
IsRising low (e ∷ es) high = (low ≤ e.1) × IsRising (e.1 + 1) es high

-- the slots with a number stand in order of number, all below the next
pub record IsDueLine (d : DueLine) (m : ℕ → Option ℕ) : Type 0 where
  pub line : List (ℕ × ℕ)
  pub chain : AreChains d.order (only (items_of line))
  pub rising : IsRising 0 line d.next
  pub due : AreDue line m

-- there is room for the slot
abbrev pub HasDueRoom : DueLine → ℕ → Type 0
HasDueRoom d q = (0 < length d.order.ends) × (q < length d.order.around)
