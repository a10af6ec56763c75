-- The status and the line on the error stream, computed.
use Rattle.std.specs.Prelude.{◌≡◌, refl, [], ◌∷◌, ◌++◌, codes, negsuc}
use Rattle.gv_values.specs.declared.fault.FaultKind.{FaultKind}
use Rattle.gv_values.specs.declared.value.Value.{Value}
use Rattle.trace_text.specs.declared.line.StopCause.{StopCause}
use Rattle.machine.specs.Status.{err_line}

line_of_loop_exit : err_line (StopCause.Fault FaultKind.LoopExit) ≡ codes "gvr: main ended by LoopExit: This operation would block forever" ++ 10 ∷ []
line_of_loop_exit = refl

line_of_error : err_line (StopCause.Fault (FaultKind.Error (negsuc 2))) ≡ codes "gvr: main ended by Error(-3)" ++ 10 ∷ []
line_of_error = refl

line_of_value : err_line (StopCause.Value Value.Nothing) ≡ []
line_of_value = refl

line_of_kills : err_line StopCause.NoKills ≡ codes "gvr: limit of kills" ++ 10 ∷ []
line_of_kills = refl
