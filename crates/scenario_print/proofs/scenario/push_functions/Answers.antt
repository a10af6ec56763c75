use Rattle.scenario_grammar.specs.Blocks.{function_lines}
use Rattle.scenario_print.proofs.Words.{through}
use Rattle.scenario_print.proofs.TreeLineLemmas.{broken_lines, laid_nothing}
use Rattle.scenario_print.proofs.ScenarioLemmas.{next_lines}
use Rattle.scenario_print.proofs.scenario.push_functions.Goals as goal

pub loop-function-init : goal.loop-function-init
loop-function-init c = laid_nothing _ _ 0

pub loop-function-preserved : goal.loop-function-preserved
loop-function-preserved c = next_lines function_lines c.loop-function.function-index c.args.functions.now c.function-item.result c.loop-function-test.true c.function-item.is c.loop-function.invariant c.in_ok-push_function.ensures

pub returns-in_err-push_function : goal.returns-in_err-push_function
returns-in_err-push_function c = broken_lines c.from_residual.ensures.0 (through _ _ _ c.in_err-push_function.ensures.front c.loop-function.invariant.front)
