use Rattle.scenario_print.proofs.Words.{broken_bytes, through}
use Rattle.scenario_print.proofs.TreeLineLemmas.{more_blanks}
use Rattle.scenario_print.proofs.tree_line.push_indent.Goals as goal

pub loop-preserved : goal.loop-preserved
loop-preserved c = more_blanks c.loop.counter c.loop.invariant c.in_ok-push_two_blanks.ensures

pub returns-in_err-push_two_blanks : goal.returns-in_err-push_two_blanks
returns-in_err-push_two_blanks c = broken_bytes c.from_residual.ensures.0 (through _ _ _ c.in_err-push_two_blanks.ensures.front c.loop.invariant.front)
