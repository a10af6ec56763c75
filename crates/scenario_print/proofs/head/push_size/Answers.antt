use Rattle.scenario_print.proofs.Words.{in_range}
use Rattle.scenario_print.proofs.head.push_size.Goals as goal
use Rattle.scenario_grammar.specs.declared.limits.TheConstants.{MOST_QUEUE_PLACES}

pub returns-in-Some : goal.returns-in-Some
returns-in-Some c = rw c.in-Some.is (in_range 1 MOST_QUEUE_PLACES c.push_number.ensures)
