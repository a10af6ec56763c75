use Rattle.scenario_print.proofs.Words.{named_line, unnamed_line}
use Rattle.scenario_print.proofs.giving.push_given.Goals as goal

pub returns-in-None : goal.returns-in-None
returns-in-None c = rw c.in-None.is (unnamed_line c.push_giving.ensures)

pub returns-in_ok-push_target-in-Some : goal.returns-in_ok-push_target-in-Some
returns-in_ok-push_target-in-Some c = rw c.in-Some.is (named_line c.in-Some.n c.in_ok-push_target-in-Some.ensures c.push_giving-in-Some.ensures)
