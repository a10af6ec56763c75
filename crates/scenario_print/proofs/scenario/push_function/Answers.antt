use Rattle.scenario_print.proofs.ScenarioLemmas.{one_function}
use Rattle.scenario_print.proofs.TreeLineLemmas.{broken_lines}
use Rattle.scenario_print.proofs.Words.{through}
use Rattle.scenario_print.proofs.scenario.push_function.Goals as goal

pub returns : goal.returns
returns c = one_function c.args.function.now c.as_slice.result.now c.as_slice.ensures c.in_ok-push_function_line.ensures c.in_ok-push_block.ensures c.push_fixed_line.ensures

pub returns-in_err-push_function_line : goal.returns-in_err-push_function_line
returns-in_err-push_function_line c = broken_lines c.from_residual.ensures.0 c.in_err-push_function_line.ensures.front

pub returns-in_err-push_block : goal.returns-in_err-push_block
returns-in_err-push_block c = broken_lines c.from_residual-in_err-push_block.ensures.0 (through _ _ _ c.in_err-push_block.ensures.front c.in_ok-push_function_line.ensures.front)
