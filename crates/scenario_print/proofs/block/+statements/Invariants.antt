use Rattle.std.proofs.Common.{take, Result, Ok}
use Rattle.std.specs.declared.alloc.AllocError.{AllocError}
use Rattle.scenario_print.specs.TreeLines.{WroteBlock, WroteExcepts}
use Rattle.scenario_print.proofs.block.+statements.Given as goal

abbrev pub invariant-push_block-loop-statement : goal.invariant-push_block-loop-statement
invariant-push_block-loop-statement l = (let done : Result (Unit {0}) AllocError = Ok tt in WroteBlock l.fn.out.items l.out.items done l.level (take l.statement-index l.statements))

abbrev pub invariant-push_excepts-loop-except : goal.invariant-push_excepts-loop-except
invariant-push_excepts-loop-except l = (let done : Result (Unit {0}) AllocError = Ok tt in WroteExcepts l.fn.out.items l.out.items done l.level (take l.except-index l.excepts))
