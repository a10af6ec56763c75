-- What an operator tells of the end of a greenlet or job.
use Rattle.std.specs.Prelude.{Option}
use Rattle.gv_values.specs.declared.fault.FaultKind.{FaultKind}
use Rattle.scenario_tree.specs.declared.tree.Unary.{Unary}
use Rattle.gv_values.specs.declared.value.Outcome.{Outcome}
use Rattle.gv_values.specs.declared.value.Value.{Value}
use Rattle.machine.specs.Expressions.{is_done, is_successful, the_value, the_fault}

-- by its word; `not` and `len` tell nothing of an end
abbrev pub told : Unary → Option Outcome → Value
told Unary.Ready o = is_done o
told Unary.Successful o = is_successful o
told Unary.Value o = the_value o
told Unary.Exception o = the_fault o
told Unary.Not o = Value.Nothing
told Unary.Length o = Value.Nothing

-- the second operand of `and` and `or`, which is a truth value too
abbrev pub as_truth : Outcome → Outcome
as_truth (Outcome.Value (Value.Bool b)) = Outcome.Value (Value.Bool b)
as_truth (Outcome.Value v) = Outcome.Fault FaultKind.TypeError
as_truth (Outcome.Fault f) = Outcome.Fault f
