-- What a walk up the parents of a greenlet looks at.
use Rattle.std.specs.Prelude.{ℕ, List, slice_get, unwrap_or}
use Rattle.machine.specs.declared.state.Greenlet.{Greenlet}
use Rattle.machine.specs.Greenlets.{nobody}

-- the greenlet at this place, also in place of one that was never made
abbrev pub at : List Greenlet → ℕ → Greenlet
at gs g = unwrap_or (slice_get gs g) nobody
