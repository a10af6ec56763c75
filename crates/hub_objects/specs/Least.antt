-- The least integer among values.
use Rattle.std.specs.Prelude.{Option, Some, None, ℤ, if◌then◌else◌, int_lt}
use Rattle.gv_values.specs.declared.value.Value.{Value}

-- the integer, if it is one, and less than this
abbrev pub lesser : Value → ℤ → Option ℤ
lesser (Value.Int y) z = if int_lt y z then Some y else None
lesser value z = None
