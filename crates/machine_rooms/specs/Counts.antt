-- What a run counts, and when its counts are far below their types. This project's own.
use Rattle.std.specs.Prelude.{ℕ, ◌^◌, ◌<◌, List, length, slice_get}
use Rattle.machine.specs.declared.state.Object.{Object}
use Rattle.machine.specs.Counts.{object_count}
use Rattle.machine.specs.State.{State}

-- the objects count no further than this as they are declared
abbrev pub AreCountable : List Object → Type 0
AreCountable objects = (o : ℕ) → object_count (slice_get objects o) < 2 ^ 62

-- each count is far below what its type holds: 32 bits of timeouts, jobs, links and greenlets, 64 of the others
pub record AreFarBelow (s : State) : Type 0 where
  pub timeouts : s.timeouts < 2 ^ 31
  pub jobs : length s.jobs < 2 ^ 31
  pub links : s.links < 2 ^ 31
  pub greenlets : length s.greenlets < 2 ^ 31
  pub items : length s.items < 2 ^ 31
  pub objects : (o : ℕ) → object_count (slice_get s.objects o) < 2 ^ 63
  pub sinces : s.next_since < 2 ^ 62
  pub numbers : s.next_ready < 2 ^ 62
