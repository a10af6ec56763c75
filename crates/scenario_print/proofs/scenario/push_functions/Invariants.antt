use Rattle.std.proofs.Common.{take, Result, Ok}
use Rattle.std.specs.declared.alloc.AllocError.{AllocError}
use Rattle.scenario_grammar.specs.Blocks.{function_lines}
use Rattle.scenario_grammar.specs.Token.{each}
use Rattle.scenario_print.specs.TreeLines.{Laid}
use Rattle.scenario_print.proofs.scenario.push_functions.Given as goal

abbrev pub invariant-loop-function : goal.invariant-loop-function
invariant-loop-function l = (let done : Result (Unit {0}) AllocError = Ok tt in Laid l.fn.out.items l.out.items done 0 0 (each function_lines (take l.function-index l.functions)))
