-- An operand that is an element of a list.
use Rattle.std.specs.Prelude.{ℕ, Option, Some, None, if◌then◌else◌}
use Rattle.gv_values.specs.declared.scalar.Scalar.{Scalar}
use Rattle.machine.specs.Greenlets.{greenlet}
use Rattle.machine.specs.State.{State}

-- the greenlet, if it is one and not raw
abbrev pub plain_scalar : State → Scalar → Option ℕ
plain_scalar s (Scalar.Greenlet g) = if (greenlet g s).raw then None else Some g
plain_scalar s x = None
