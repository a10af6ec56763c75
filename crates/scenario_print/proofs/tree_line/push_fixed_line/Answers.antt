use Rattle.scenario_print.proofs.TreeLineLemmas.{broken_fixed_line, fixed_line}
use Rattle.scenario_print.proofs.Words.{through}
use Rattle.scenario_print.proofs.tree_line.push_fixed_line.Goals as goal

pub returns : goal.returns
returns c = fixed_line c.in_ok-push_indent.ensures c.in_ok-push_first.ensures c.push_line_end.ensures

pub returns-in_err-push_indent : goal.returns-in_err-push_indent
returns-in_err-push_indent c = broken_fixed_line c.from_residual.ensures.0 c.in_err-push_indent.ensures.front

pub returns-in_err-push_first : goal.returns-in_err-push_first
returns-in_err-push_first c = broken_fixed_line c.from_residual-in_err-push_first.ensures.0 (through _ _ _ c.in_err-push_first.ensures.front c.in_ok-push_indent.ensures.front)
