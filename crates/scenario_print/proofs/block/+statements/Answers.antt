use Rattle.scenario_print.proofs.BlockLemmas.{broken_block, broken_excepts, broken_statement, command_statement, giving_statement, if_else_statement, if_statement, next_except, next_statement, no_statements, timeout_statement, try_finally_statement, try_statement, while_statement}
use Rattle.scenario_print.proofs.Words.{through}
use Rattle.scenario_print.proofs.block.+statements.Goals as goal

pub push_block-loop-statement-init : goal.push_block-loop-statement-init
push_block-loop-statement-init t c = no_statements _ _ _

pub push_block-loop-statement-preserved : goal.push_block-loop-statement-preserved
push_block-loop-statement-preserved t c =
    next_statement c.args.level c.loop-statement.statement-index c.args.statements.now c.statement-item.result c.loop-statement-test.true c.statement-item.is c.loop-statement.invariant c.in_ok-push_statement.ensures

pub push_excepts-loop-except-preserved : goal.push_excepts-loop-except-preserved
push_excepts-loop-except-preserved t c =
    next_except c.args.level c.loop-except.except-index c.args.excepts.now c.except-item.result c.as_slice.result.now c.loop-except-test.true c.except-item.is c.deeper.ensures c.as_slice.ensures
    c.loop-except.invariant c.in_ok-push_except_line.ensures c.in_ok-push_block.ensures

pub push_statement-returns-in-Command : goal.push_statement-returns-in-Command
push_statement-returns-in-Command t c = command_statement c.args.level c.args.statement.now c.in-Command.command c.in-Command.is c.push_command_line.ensures

pub push_statement-returns-in-Giving : goal.push_statement-returns-in-Giving
push_statement-returns-in-Giving t c = giving_statement c.args.level c.args.statement.now c.in-Giving.target c.in-Giving.giving c.in-Giving.is c.push_giving_line.ensures

pub push_statement-returns-in_ok-push_block-in-While : goal.push_statement-returns-in_ok-push_block-in-While
push_statement-returns-in_ok-push_block-in-While t c =
    while_statement c.args.level c.args.statement.now c.in-While.e c.in-While.body c.as_slice-in-While.result.now c.in-While.is c.deeper-inside.ensures c.as_slice-in-While.ensures
    c.in_ok-push_while_line-in-While.ensures c.in_ok-push_block-in-While.ensures c.push_fixed_line-in-While.ensures

pub push_statement-returns-in_ok-push_block-in-Timeout : goal.push_statement-returns-in_ok-push_block-in-Timeout
push_statement-returns-in_ok-push_block-in-Timeout t c =
    timeout_statement c.args.level c.args.statement.now c.in-Timeout.after c.in-Timeout.is_silent c.in-Timeout.body c.as_slice-in-Timeout.result.now c.in-Timeout.is c.deeper-inside.ensures c.as_slice-in-Timeout.ensures
    c.in_ok-push_timeout_line-in-Timeout.ensures c.in_ok-push_block-in-Timeout.ensures c.push_fixed_line-in-Timeout.ensures

pub push_statement-returns-in-None : goal.push_statement-returns-in-None
push_statement-returns-in-None t c =
    if_statement c.args.level c.args.statement.now c.in-If.e c.in-If.then_part c.as_slice.result.now c.in-If.else_part c.in-If.is c.in-None.is c.deeper-inside.ensures c.as_slice.ensures
    c.in_ok-push_if_line-in-If.ensures c.in_ok-push_block-in-If.ensures c.push_fixed_line.ensures

pub push_statement-returns-in_ok-push_block-in-Some : goal.push_statement-returns-in_ok-push_block-in-Some
push_statement-returns-in_ok-push_block-in-Some t c =
    if_else_statement c.args.level c.args.statement.now c.in-If.e c.in-If.then_part c.as_slice.result.now c.in-Some.body c.as_slice-in-Some.result.now c.in-If.else_part c.in-If.is c.in-Some.is
    c.deeper-inside.ensures c.as_slice.ensures c.as_slice-in-Some.ensures c.in_ok-push_if_line-in-If.ensures c.in_ok-push_block-in-If.ensures c.in_ok-push_fixed_line-in-Some.ensures
    c.in_ok-push_block-in-Some.ensures c.push_fixed_line-in-Some-2.ensures

pub push_statement-returns-in-None-finally : goal.push_statement-returns-in-None-finally
push_statement-returns-in-None-finally t c =
    try_statement c.args.level c.args.statement.now c.in-Try.body c.as_slice-in-Try.result.now c.in-Try.excepts c.as_slice-in-Try-2.result.now c.in-Try.finally c.in-Try.is c.in-None-finally.is
    c.deeper-inside.ensures c.as_slice-in-Try.ensures c.as_slice-in-Try-2.ensures c.in_ok-push_fixed_line-in-Try.ensures c.in_ok-push_block-in-Try.ensures c.in_ok-push_excepts-in-Try.ensures
    c.push_fixed_line-in-None-finally.ensures

pub push_statement-returns-in_ok-push_block-in-Some-finally : goal.push_statement-returns-in_ok-push_block-in-Some-finally
push_statement-returns-in_ok-push_block-in-Some-finally t c =
    try_finally_statement c.args.level c.args.statement.now c.in-Try.body c.as_slice-in-Try.result.now c.in-Try.excepts c.as_slice-in-Try-2.result.now c.in-Some-finally.body c.as_slice-in-Some-finally.result.now
    c.in-Try.finally c.in-Try.is c.in-Some-finally.is c.deeper-inside.ensures c.as_slice-in-Try.ensures c.as_slice-in-Try-2.ensures c.as_slice-in-Some-finally.ensures
    c.in_ok-push_fixed_line-in-Try.ensures c.in_ok-push_block-in-Try.ensures c.in_ok-push_excepts-in-Try.ensures c.in_ok-push_fixed_line-in-Some-finally.ensures
    c.in_ok-push_block-in-Some-finally.ensures c.push_fixed_line-in-Some-finally-2.ensures

pub push_block-returns-in_err-push_statement : goal.push_block-returns-in_err-push_statement
push_block-returns-in_err-push_statement t c = broken_block c.from_residual.ensures.0 (through _ _ _ c.in_err-push_statement.ensures.front c.loop-statement.invariant.front)

pub push_excepts-returns-in_err-push_except_line : goal.push_excepts-returns-in_err-push_except_line
push_excepts-returns-in_err-push_except_line t c = broken_excepts c.from_residual.ensures.0 (through _ _ _ c.in_err-push_except_line.ensures.front c.loop-except.invariant.front)

pub push_excepts-returns-in_err-push_block : goal.push_excepts-returns-in_err-push_block
push_excepts-returns-in_err-push_block t c =
    broken_excepts c.from_residual-in_err-push_block.ensures.0 (through _ _ _ c.in_err-push_block.ensures.front (through _ _ _ c.in_ok-push_except_line.ensures.front c.loop-except.invariant.front))

pub push_statement-returns-in_err-push_if_line-in-If : goal.push_statement-returns-in_err-push_if_line-in-If
push_statement-returns-in_err-push_if_line-in-If t c = broken_statement c.from_residual.ensures.0 c.in_err-push_if_line-in-If.ensures.front

pub push_statement-returns-in_err-push_block-in-If : goal.push_statement-returns-in_err-push_block-in-If
push_statement-returns-in_err-push_block-in-If t c =
    broken_statement c.from_residual-in_err-push_block-in-If.ensures.0 (through _ _ _ c.in_err-push_block-in-If.ensures.front c.in_ok-push_if_line-in-If.ensures.front)

pub push_statement-returns-in_err-push_fixed_line-in-Some : goal.push_statement-returns-in_err-push_fixed_line-in-Some
push_statement-returns-in_err-push_fixed_line-in-Some t c =
    broken_statement c.from_residual-in_err-push_fixed_line-in-Some.ensures.0 (through _ _ _ c.in_err-push_fixed_line-in-Some.ensures.front (through _ _ _ c.in_ok-push_block-in-If.ensures.front c.in_ok-push_if_line-in-If.ensures.front))

pub push_statement-returns-in_err-push_block-in-Some : goal.push_statement-returns-in_err-push_block-in-Some
push_statement-returns-in_err-push_block-in-Some t c =
    broken_statement c.from_residual-in_err-push_block-in-Some.ensures.0 (through _ _ _ c.in_err-push_block-in-Some.ensures.front (through _ _ _ c.in_ok-push_fixed_line-in-Some.ensures.front (through _ _ _ c.in_ok-push_block-in-If.ensures.front c.in_ok-push_if_line-in-If.ensures.front)))

pub push_statement-returns-in_err-push_while_line-in-While : goal.push_statement-returns-in_err-push_while_line-in-While
push_statement-returns-in_err-push_while_line-in-While t c = broken_statement c.from_residual-in_err-push_while_line-in-While.ensures.0 c.in_err-push_while_line-in-While.ensures.front

pub push_statement-returns-in_err-push_block-in-While : goal.push_statement-returns-in_err-push_block-in-While
push_statement-returns-in_err-push_block-in-While t c =
    broken_statement c.from_residual-in_err-push_block-in-While.ensures.0 (through _ _ _ c.in_err-push_block-in-While.ensures.front c.in_ok-push_while_line-in-While.ensures.front)

pub push_statement-returns-in_err-push_fixed_line-in-Try : goal.push_statement-returns-in_err-push_fixed_line-in-Try
push_statement-returns-in_err-push_fixed_line-in-Try t c = broken_statement c.from_residual-in_err-push_fixed_line-in-Try.ensures.0 c.in_err-push_fixed_line-in-Try.ensures.front

pub push_statement-returns-in_err-push_block-in-Try : goal.push_statement-returns-in_err-push_block-in-Try
push_statement-returns-in_err-push_block-in-Try t c =
    broken_statement c.from_residual-in_err-push_block-in-Try.ensures.0 (through _ _ _ c.in_err-push_block-in-Try.ensures.front c.in_ok-push_fixed_line-in-Try.ensures.front)

pub push_statement-returns-in_err-push_excepts-in-Try : goal.push_statement-returns-in_err-push_excepts-in-Try
push_statement-returns-in_err-push_excepts-in-Try t c =
    broken_statement c.from_residual-in_err-push_excepts-in-Try.ensures.0 (through _ _ _ c.in_err-push_excepts-in-Try.ensures.front (through _ _ _ c.in_ok-push_block-in-Try.ensures.front c.in_ok-push_fixed_line-in-Try.ensures.front))

pub push_statement-returns-in_err-push_fixed_line-in-Some-finally : goal.push_statement-returns-in_err-push_fixed_line-in-Some-finally
push_statement-returns-in_err-push_fixed_line-in-Some-finally t c =
    broken_statement c.from_residual-in_err-push_fixed_line-in-Some-finally.ensures.0 (through _ _ _ c.in_err-push_fixed_line-in-Some-finally.ensures.front (through _ _ _ c.in_ok-push_excepts-in-Try.ensures.front (through _ _ _ c.in_ok-push_block-in-Try.ensures.front c.in_ok-push_fixed_line-in-Try.ensures.front)))

pub push_statement-returns-in_err-push_block-in-Some-finally : goal.push_statement-returns-in_err-push_block-in-Some-finally
push_statement-returns-in_err-push_block-in-Some-finally t c =
    broken_statement c.from_residual-in_err-push_block-in-Some-finally.ensures.0 (through _ _ _ c.in_err-push_block-in-Some-finally.ensures.front (through _ _ _ c.in_ok-push_fixed_line-in-Some-finally.ensures.front (through _ _ _ c.in_ok-push_excepts-in-Try.ensures.front (through _ _ _ c.in_ok-push_block-in-Try.ensures.front c.in_ok-push_fixed_line-in-Try.ensures.front))))

pub push_statement-returns-in_err-push_timeout_line-in-Timeout : goal.push_statement-returns-in_err-push_timeout_line-in-Timeout
push_statement-returns-in_err-push_timeout_line-in-Timeout t c = broken_statement c.from_residual-in_err-push_timeout_line-in-Timeout.ensures.0 c.in_err-push_timeout_line-in-Timeout.ensures.front

pub push_statement-returns-in_err-push_block-in-Timeout : goal.push_statement-returns-in_err-push_block-in-Timeout
push_statement-returns-in_err-push_block-in-Timeout t c =
    broken_statement c.from_residual-in_err-push_block-in-Timeout.ensures.0 (through _ _ _ c.in_err-push_block-in-Timeout.ensures.front c.in_ok-push_timeout_line-in-Timeout.ensures.front)
