use Rattle.std.proofs.Common.{◌*◌, replicate, Result, Ok}
use Rattle.std.specs.declared.alloc.AllocError.{AllocError}
use Rattle.scenario_print.specs.Written.{Appended}
use Rattle.scenario_print.proofs.tree_line.push_indent.Given as goal

abbrev pub invariant-loop : goal.invariant-loop
invariant-loop l = (let done : Result (Unit {0}) AllocError = Ok tt in Appended l.fn.out.items l.out.items done (replicate (2 * l.counter) 32))
