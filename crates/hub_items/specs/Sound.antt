-- What is so of the items in every state that can be reached.
use Rattle.std.specs.Prelude.{◌≡◌, ℕ, ◌+◌, ◌≤◌, true, List, [], ◌∷◌}
use Rattle.machine.specs.declared.items.Item.{Item}
use Rattle.machine.specs.Soundness.{are_single}
use Rattle.hub_items.specs.Short.{AreShort}

-- each since is at least this, above those before it, and below the next
abbrev pub AscendTo : ℕ → ℕ → List Item → Type 0
AscendTo low next [] = low ≤ next
AscendTo low next (i ∷ items) = record { above : low ≤ i.since; rest : AscendTo (i.since + 1) next items }

-- of each greenlet there is at most one Start, one Wake and one Late, and timeouts and links have numbers of their own;
-- and what a wait ends with fits a list
pub record IsSound (items : List Item) : Type 0 where
  pub single : are_single items ≡ true
  pub short : AreShort items
