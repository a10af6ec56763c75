-- What contracts see of `Timers`.
use Rattle.std.specs.Prelude.{◌≡◌, ◌<◌, ◌≤◌, ◌⊎◌, ℕ, List, ◌∷◌, map}
use Rattle.std.specs.List.Sorted.{IsPermutation}
use Rattle.due_timers.specs.declared.heap.Timer.{Timer}

-- the items with their deadlines, in any order, how many more fit, and below which number all items are
pub record SeenTimers : Type 0 where
  pub timers : List Timer
  pub spare : ℕ
  pub reach : ℕ

-- the items of the timers
abbrev pub items_in : List Timer → List ℕ
items_in ts = map (λ t. t.item) ts

-- their deadlines
abbrev pub deadlines_in : List Timer → List ℕ
deadlines_in ts = map (λ t. t.deadline) ts

-- t comes before u or with it: by deadline, and where that is the same by since
abbrev pub IsNotAfter : Timer → Timer → Type 0
IsNotAfter t u = (t.deadline < u.deadline) ⊎ ((t.deadline ≡ u.deadline) × (t.since ≤ u.since))

-- old is new and a timer of the item, of which P holds
pub record TakesTimer (old : List Timer) (item : ℕ) (new : List Timer) (P : Timer → Type 0) : Type 0 where
  pub timer : Timer
  pub item_is : timer.item ≡ item
  pub rest : IsPermutation old (timer ∷ new)
  pub holds : P timer
