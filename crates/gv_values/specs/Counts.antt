-- Counts of 64 bits, as of faults and of refusals.
use Rattle.std.specs.Prelude.{ℕ, ◌-◌, ◌^◌, ◌<◌, ◌≤◌, ◌⊎◌}

-- the count rose, or stands at its last value
abbrev pub HasRisen : ℕ → ℕ → Type 0
HasRisen old new = (old < new) ⊎ (2 ^ 64 - 1 ≤ new)
