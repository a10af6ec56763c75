-- How far the counts of a run come. This project's own.
use Rattle.std.specs.Prelude.{ℕ, ◌+◌, ◌*◌, ◌≤◌, List, length, slice_get}
use Rattle.machine.specs.declared.limits.TheConstants.{MOST_GREENLETS, MOST_KILLS, MOST_LINKS}
use Rattle.machine.specs.declared.state.Object.{Object}
use Rattle.machine.specs.State.{State}
use Rattle.machine.specs.Counts.{object_count}

-- no more small steps than this are taken within so many moves: a move takes twelve at most, and a greenlet seven
abbrev pub most_steps : ℕ → ℕ
most_steps moves = 12 * moves + 7 * MOST_GREENLETS + 2

-- timeouts, jobs, links, greenlets, what objects count and the items that were made are few for the moves that were made
pub record AreFew (declared : List Object) (s : State) : Type 0 where
  pub timeouts : s.timeouts ≤ most_steps s.moves
  pub jobs : length s.jobs ≤ most_steps s.moves
  pub links : s.links ≤ MOST_LINKS
  pub greenlets : length s.greenlets ≤ MOST_GREENLETS
  -- an object counts on from what it was declared with
  pub objects : (o : ℕ) → object_count (slice_get s.objects o) ≤ object_count (slice_get declared o) + most_steps s.moves
  -- each greenlet that ends may take all kills with it, and as many more may stand
  pub sinces : s.next_since ≤ 2 * most_steps s.moves + MOST_KILLS * (MOST_GREENLETS + 1)

-- the ready numbers that were given are few for the moves and turns
abbrev pub AreFewNumbers : State → Type 0
AreFewNumbers s = s.next_ready ≤ 2 * MOST_KILLS * (most_steps s.moves + s.turns)
