use Rattle.scenario_print.proofs.Words.{broken_start, further, through}
use Rattle.scenario_print.proofs.start.start_kill.Goals as goal

pub returns : goal.returns
returns c = further (further c.in_ok-start_expression.ensures c.in_ok-push_marked.ensures) c.push_wait.ensures

pub returns-in_err-start_expression : goal.returns-in_err-start_expression
returns-in_err-start_expression c = broken_start c.from_residual.ensures.0 c.in_err-start_expression.ensures.front

pub returns-in_err-push_marked : goal.returns-in_err-push_marked
returns-in_err-push_marked c = broken_start c.from_residual-in_err-push_marked.ensures.0 (through _ _ _ c.in_err-push_marked.ensures.front c.in_ok-start_expression.ensures.front)
