-- What holds of the fields of `Timers`.
use Rattle.std.specs.Prelude.{◌≤◌, ◌<◌, ◌^◌, length, vec_capacity}
use Rattle.std.specs.List.{All}
use Rattle.due_timers.specs.declared.heap.Timers.TheInside.{Inside}
use Rattle.due_timers.specs.declared.limits.TheConstants.{MOST_TIMERS}
use Rattle.due_timers.specs.Heap.{rank_at, IsOrdered, IsTied}

-- the timers are a heap, the table has the place of each, and so many fit
pub record IsSound (t : Inside) : Type 0 where
  pub ordered : IsOrdered (rank_at t.heap.items) (length t.heap.items)
  pub tied : IsTied t.heap.items t.places
  pub within : length t.heap.items ≤ t.limit
  pub fits : t.limit ≤ vec_capacity t.heap
  pub most : t.limit ≤ MOST_TIMERS
  pub in_range : All (λ t. t.since < 2 ^ 64) t.heap.items
