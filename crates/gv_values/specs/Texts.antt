-- The texts of numbers, faults and values.
use Rattle.std.specs.Prelude.{ℕ, zero, suc, ◌+◌, ◌/◌, ◌%◌, nat_lt, true, false, ℤ, pos, negsuc, List, [], ◌∷◌, ◌++◌, codes}
use Rattle.gv_values.specs.declared.fault.FaultKind.{FaultKind}
use Rattle.gv_values.specs.declared.scalar.Scalar.{Scalar}
use Rattle.gv_values.specs.declared.value.Value.{Value}
use Rattle.gv_values.specs.declared.value.Outcome.{Outcome}
use Rattle.gv_values.specs.declared.value.Whom.{Whom}

-- the bytes of a text
abbrev pub Text : Type 0
Text = List ℕ

-- the decimal digits of m, at most n of them
abbrev pub digits_within : ℕ → ℕ → Text
digits_within zero m = []
digits_within (suc n) m = elim (nat_lt m 10) [ true ↦ (48 + m) ∷ [] | false ↦ digits_within n (m / 10) ++ (48 + m % 10) ∷ [] ]

-- the number in decimal digits, with no leading zero
abbrev pub decimal : ℕ → Text
decimal m = digits_within (suc m) m

-- the integer in decimal digits, with `-` before one below 0
abbrev pub int_text : ℤ → Text
int_text (pos n) = decimal n
int_text (negsuc n) = codes "-" ++ decimal (suc n)

-- a word and its number, as `Timeout(1)`
abbrev pub numbered : Text → Text → Text
numbered word n = word ++ codes "(" ++ n ++ codes ")"

-- the kind's name; Timeout and Error carry their number
abbrev pub fault_text : FaultKind → Text
fault_text FaultKind.GreenletExit = codes "GreenletExit"
fault_text (FaultKind.Timeout n) = numbered (codes "Timeout") (decimal n)
fault_text FaultKind.LoopExit = codes "LoopExit"
fault_text FaultKind.Empty = codes "Empty"
fault_text FaultKind.Full = codes "Full"
fault_text FaultKind.ShutDown = codes "ShutDown"
fault_text FaultKind.ValueError = codes "ValueError"
fault_text FaultKind.RuntimeError = codes "RuntimeError"
fault_text FaultKind.TypeError = codes "TypeError"
fault_text FaultKind.OverflowError = codes "OverflowError"
fault_text FaultKind.ZeroDivisionError = codes "ZeroDivisionError"
fault_text FaultKind.InvalidSwitch = codes "InvalidSwitch"
fault_text (FaultKind.Error z) = numbered (codes "Error") (int_text z)

-- the handle of a greenlet, as `g0`
abbrev pub greenlet_text : ℕ → Text
greenlet_text g = codes "g" ++ decimal g

-- the handle of a job, as `j1`
abbrev pub job_text : ℕ → Text
job_text j = codes "j" ++ decimal j

abbrev pub scalar_text : Scalar → Text
scalar_text Scalar.Nothing = codes "none"
scalar_text (Scalar.Bool true) = codes "true"
scalar_text (Scalar.Bool false) = codes "false"
scalar_text (Scalar.Int z) = int_text z
scalar_text (Scalar.Fault f) = fault_text f
scalar_text (Scalar.Greenlet g) = greenlet_text g
scalar_text (Scalar.Job j) = job_text j

-- the scalars' texts with `, ` between two
abbrev pub scalars_text : List Scalar → Text
scalars_text [] = []
scalars_text (x ∷ []) = scalar_text x
scalars_text (x ∷ y ∷ xs) = scalar_text x ++ codes ", " ++ scalars_text (y ∷ xs)

-- a scalar's text, or a list's in brackets, as `[1, none]`
abbrev pub value_text : Value → Text
value_text Value.Nothing = codes "none"
value_text (Value.Bool true) = codes "true"
value_text (Value.Bool false) = codes "false"
value_text (Value.Int z) = int_text z
value_text (Value.Fault f) = fault_text f
value_text (Value.Greenlet g) = greenlet_text g
value_text (Value.Job j) = job_text j
value_text (Value.List xs) = codes "[" ++ scalars_text xs ++ codes "]"

-- how a greenlet ended, as `value none` or `fault Empty`
abbrev pub outcome_text : Outcome → Text
outcome_text (Outcome.Value v) = codes "value " ++ value_text v
outcome_text (Outcome.Fault f) = codes "fault " ++ fault_text f

abbrev pub whom_text : Whom → Text
whom_text (Whom.Greenlet g) = greenlet_text g
whom_text (Whom.Job j) = job_text j
