use Rattle.scenario_print.proofs.Words.{worded}
use Rattle.scenario_print.proofs.part.push_marked.Goals as goal

pub returns-in_ok-push_fixed-in-Some : goal.returns-in_ok-push_fixed-in-Some
returns-in_ok-push_fixed-in-Some c = rw c.in-Some.is (worded c.args.word c.in_ok-push_fixed-in-Some.ensures c.push_expression.ensures)
