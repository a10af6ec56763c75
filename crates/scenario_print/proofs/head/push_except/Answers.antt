use Rattle.std.proofs.Common.{Some, None}
use Rattle.scenario_print.proofs.Heads.{except_line}
use Rattle.scenario_print.proofs.Words.{broken_line, nothing, through}
use Rattle.scenario_print.proofs.head.push_except.Goals as goal

pub returns-in-None : goal.returns-in-None
returns-in-None c = rw c.in-None.is (except_line c.args.class c.class_word.ensures None c.in_ok-push_first.ensures c.in_ok-push_fixed.ensures (nothing _ _))

pub returns-in-Some : goal.returns-in-Some
returns-in-Some c = rw c.in-Some.is (except_line c.args.class c.class_word.ensures (Some c.in-Some.n) c.in_ok-push_first.ensures c.in_ok-push_fixed.ensures c.push_name.ensures)

pub returns-in_err-push_first : goal.returns-in_err-push_first
returns-in_err-push_first c = broken_line c.from_residual.ensures.0 c.in_err-push_first.ensures.front

pub returns-in_err-push_fixed : goal.returns-in_err-push_fixed
returns-in_err-push_fixed c = broken_line c.from_residual-in_err-push_fixed.ensures.0 (through _ _ _ c.in_err-push_fixed.ensures.front c.in_ok-push_first.ensures.front)
