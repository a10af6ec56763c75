-- The host of a raw greenlet: the first one up the chain of parents that is not raw. greenlet documentation, parents.
use Rattle.std.specs.Prelude.{ℕ, zero, suc, ◌==◌, Bool, true, false, List, length, slice_get, unwrap_or}
use Rattle.machine.specs.State.{State}
use Rattle.machine.specs.declared.state.Greenlet.{Greenlet}
use Rattle.machine.specs.Greenlets.{nobody}

-- the first greenlet that is not raw, up the chain of parents
abbrev pub host_within : ℕ → List Greenlet → ℕ → ℕ
host_within zero gs g = g
host_within (suc n) gs g =
    elim (unwrap_or (slice_get gs g) nobody).raw [ true ↦ host_within n gs (unwrap_or (slice_get gs g) nobody).parent | false ↦ g ]

-- the greenlet that is not raw and in which this one runs; one that is not raw is its own host
abbrev pub host_of : State → ℕ → ℕ
host_of s g = host_within (length s.greenlets) s.greenlets g

-- the child stands in the chain of parents that begins at g
abbrev pub is_above : ℕ → List Greenlet → ℕ → ℕ → Bool
is_above zero gs child g = child == g
is_above (suc n) gs child g =
    elim (child == g) [
      | true ↦ true
      | false ↦ elim (unwrap_or (slice_get gs g) nobody).raw [ true ↦ is_above n gs child (unwrap_or (slice_get gs g) nobody).parent | false ↦ false ]
    ]
