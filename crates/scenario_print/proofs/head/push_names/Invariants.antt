use Rattle.std.proofs.Common.{take, Result, Ok}
use Rattle.std.specs.declared.alloc.AllocError.{AllocError}
use Rattle.scenario_grammar.specs.Token.{each, name}
use Rattle.scenario_print.specs.Written.{Wrote}
use Rattle.scenario_print.proofs.head.push_names.Given as goal

abbrev pub invariant-loop-n : goal.invariant-loop-n
invariant-loop-n l = (let done : Result (Unit {0}) AllocError = Ok tt in Wrote l.fn.out.items l.out.items done (each name (take l.n-index l.names)))
