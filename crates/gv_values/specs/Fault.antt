-- Which class of an `except` catches which fault, and when two faults are the same.
use Rattle.std.specs.Prelude.{◌==◌, Bool, true, false}
use Rattle.std.specs.Ordering.{int_eq}
use Rattle.gv_values.specs.declared.fault.FaultKind.{FaultKind}
use Rattle.gv_values.specs.declared.fault.Class.{Class}

-- the class catches the fault: `Any` every one, `Exception` all but GreenletExit and Timeout, each other its own kind
abbrev pub catches : Class → FaultKind → Bool
catches Class.Any f = true
catches Class.Exception FaultKind.GreenletExit = false
catches Class.Exception (FaultKind.Timeout n) = false
catches Class.Exception f = true
catches Class.GreenletExit FaultKind.GreenletExit = true
catches Class.Timeout (FaultKind.Timeout n) = true
catches Class.LoopExit FaultKind.LoopExit = true
catches Class.Empty FaultKind.Empty = true
catches Class.Full FaultKind.Full = true
catches Class.ShutDown FaultKind.ShutDown = true
catches Class.ValueError FaultKind.ValueError = true
catches Class.RuntimeError FaultKind.RuntimeError = true
catches Class.TypeError FaultKind.TypeError = true
catches Class.OverflowError FaultKind.OverflowError = true
catches Class.ZeroDivisionError FaultKind.ZeroDivisionError = true
catches Class.InvalidSwitch FaultKind.InvalidSwitch = true
catches Class.Error (FaultKind.Error z) = true
catches c f = false

-- the same kind with the same number
abbrev pub fault_eq : FaultKind → FaultKind → Bool
fault_eq FaultKind.GreenletExit FaultKind.GreenletExit = true
fault_eq (FaultKind.Timeout a) (FaultKind.Timeout b) = a == b
fault_eq FaultKind.LoopExit FaultKind.LoopExit = true
fault_eq FaultKind.Empty FaultKind.Empty = true
fault_eq FaultKind.Full FaultKind.Full = true
fault_eq FaultKind.ShutDown FaultKind.ShutDown = true
fault_eq FaultKind.ValueError FaultKind.ValueError = true
fault_eq FaultKind.RuntimeError FaultKind.RuntimeError = true
fault_eq FaultKind.TypeError FaultKind.TypeError = true
fault_eq FaultKind.OverflowError FaultKind.OverflowError = true
fault_eq FaultKind.ZeroDivisionError FaultKind.ZeroDivisionError = true
fault_eq FaultKind.InvalidSwitch FaultKind.InvalidSwitch = true
fault_eq (FaultKind.Error a) (FaultKind.Error b) = int_eq a b
fault_eq a b = false
