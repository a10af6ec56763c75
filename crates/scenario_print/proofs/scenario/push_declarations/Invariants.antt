use Rattle.std.proofs.Common.{take, Result, Ok}
use Rattle.std.specs.declared.alloc.AllocError.{AllocError}
use Rattle.scenario_grammar.specs.Blocks.{declaration_lines}
use Rattle.scenario_grammar.specs.Token.{each}
use Rattle.scenario_print.specs.TreeLines.{Laid}
use Rattle.scenario_print.proofs.scenario.push_declarations.Given as goal

abbrev pub invariant-loop-declaration : goal.invariant-loop-declaration
invariant-loop-declaration l = (let done : Result (Unit {0}) AllocError = Ok tt in Laid l.fn.out.items l.out.items done 0 0 (each declaration_lines (take l.declaration-index l.declarations)))
