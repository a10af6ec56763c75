-- How often a stream failed.
use Rattle.std.specs.Prelude.{◌≡◌, ◌≤◌, ℕ}
use Rattle.gv_values.specs.Counts.{HasRisen}

-- the count of a stream's faults never falls: it rose where the stream failed so, and is as it was where it did not
pub record Counts (fails : Type 0) (old new : ℕ) : Type 0 where
  pub failed : fails → HasRisen old new
  pub unfailed : (fails → ⊥) → new ≡ old
  pub never_falls : old ≤ new
