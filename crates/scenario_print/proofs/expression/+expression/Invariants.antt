use Rattle.std.proofs.Common.{take, Result, Ok}
use Rattle.std.specs.declared.alloc.AllocError.{AllocError}
use Rattle.scenario_print.specs.Written.{WroteExpressions}
use Rattle.scenario_print.proofs.expression.+expression.Given as goal

abbrev pub invariant-push_operands-loop-item : goal.invariant-push_operands-loop-item
invariant-push_operands-loop-item l = (let done : Result (Unit {0}) AllocError = Ok tt in WroteExpressions l.fn.out.items l.out.items done (take l.item-index l.items))
