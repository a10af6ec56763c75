-- What an operand that may be missing comes to, as the code evaluates it.
use Rattle.std.specs.Prelude.{Option, Some, Result, Ok, Err, option_map}
use Rattle.gv_values.specs.declared.fault.FaultKind.{FaultKind}
use Rattle.gv_values.specs.declared.value.Outcome.{Outcome}
use Rattle.gv_values.specs.declared.value.Value.{Value}

-- its outcome, by its value or its fault; none where it is missing
abbrev pub outcome_if : Result (Option Value) FaultKind → Option Outcome
outcome_if (Ok v) = option_map Outcome.Value v
outcome_if (Err f) = Some (Outcome.Fault f)
