-- A map's results that are gathered one after another.
use Rattle.std.specs.Prelude.{◌≡◌, Bool, List, Some, None, if◌then◌else◌, reverse}
use Rattle.gv_values.specs.declared.scalar.Scalar.{Scalar}
use Rattle.gv_values.specs.declared.value.Outcome.{Outcome}
use Rattle.gv_values.specs.declared.value.Value.{Value}
use Rattle.machine.specs.Expressions.{scalars}
use Rattle.machine.specs.Waits.{gathered}

-- some values were seen, of which one is a list or these are the scalars, and these outcomes are to come
pub record IsGathering (whole : Outcome) (to_come : List Outcome) (found : List Scalar) (has_list : Bool) : Type 0 where
  pub seen : List Value
  pub rest : whole ≡ gathered to_come seen
  pub values : scalars (reverse seen) ≡ (if has_list then None else Some found)
