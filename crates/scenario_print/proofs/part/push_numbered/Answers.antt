use Rattle.scenario_print.proofs.Words.{in_range, worded}
use Rattle.scenario_print.proofs.part.push_numbered.Goals as goal

pub returns-in_ok-push_fixed-in-Some : goal.returns-in_ok-push_fixed-in-Some
returns-in_ok-push_fixed-in-Some c = λ least greatest. rw c.in-Some.is (worded c.args.word c.in_ok-push_fixed-in-Some.ensures (in_range least greatest c.push_number.ensures))
