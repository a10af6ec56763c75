-- Scalars as values and back, and when two values are equal.
use Rattle.std.specs.Prelude.{◌==◌, Bool, true, false, List, Option, Some, None}
use Rattle.std.specs.Bool.{beq}
use Rattle.std.specs.Ordering.{int_eq}
use Rattle.std.specs.Cmp.Lexicographic.{pointwise}
use Rattle.gv_values.specs.declared.scalar.Scalar.{Scalar}
use Rattle.gv_values.specs.declared.value.Value.{Value}
use Rattle.gv_values.specs.Fault.{fault_eq}

-- the scalar as a value
abbrev pub value_of_scalar : Scalar → Value
value_of_scalar Scalar.Nothing = Value.Nothing
value_of_scalar (Scalar.Bool b) = Value.Bool b
value_of_scalar (Scalar.Int z) = Value.Int z
value_of_scalar (Scalar.Fault f) = Value.Fault f
value_of_scalar (Scalar.Greenlet g) = Value.Greenlet g
value_of_scalar (Scalar.Job j) = Value.Job j

-- the value as a scalar; a list is none
abbrev pub scalar_of_value : Value → Option Scalar
scalar_of_value Value.Nothing = Some Scalar.Nothing
scalar_of_value (Value.Bool b) = Some (Scalar.Bool b)
scalar_of_value (Value.Int z) = Some (Scalar.Int z)
scalar_of_value (Value.Fault f) = Some (Scalar.Fault f)
scalar_of_value (Value.Greenlet g) = Some (Scalar.Greenlet g)
scalar_of_value (Value.Job j) = Some (Scalar.Job j)
scalar_of_value (Value.List xs) = None

-- the same kind of scalar with the same content
abbrev pub scalar_eq : Scalar → Scalar → Bool
scalar_eq Scalar.Nothing Scalar.Nothing = true
scalar_eq (Scalar.Bool a) (Scalar.Bool b) = beq a b
scalar_eq (Scalar.Int a) (Scalar.Int b) = int_eq a b
scalar_eq (Scalar.Fault a) (Scalar.Fault b) = fault_eq a b
scalar_eq (Scalar.Greenlet a) (Scalar.Greenlet b) = a == b
scalar_eq (Scalar.Job a) (Scalar.Job b) = a == b
scalar_eq a b = false

-- equal place by place, and equally long
abbrev pub scalars_eq : List Scalar → List Scalar → Bool
scalars_eq = pointwise scalar_eq

-- the same kind of value with the same content; a truth value never equals an integer
abbrev pub value_eq : Value → Value → Bool
value_eq Value.Nothing Value.Nothing = true
value_eq (Value.Bool a) (Value.Bool b) = beq a b
value_eq (Value.Int a) (Value.Int b) = int_eq a b
value_eq (Value.Fault a) (Value.Fault b) = fault_eq a b
value_eq (Value.Greenlet a) (Value.Greenlet b) = a == b
value_eq (Value.Job a) (Value.Job b) = a == b
value_eq (Value.List a) (Value.List b) = scalars_eq a b
value_eq a b = false
