use Rattle.scenario_grammar.specs.declared.limits.TheConstants.{MOST_MS}
use Rattle.scenario_print.proofs.Words.{started}
use Rattle.scenario_print.proofs.head.start_timeout.Goals as goal

pub returns-in_ok-push_first-in-None : goal.returns-in_ok-push_first-in-None
returns-in_ok-push_first-in-None c = rw c.in-None.is (started c.in_ok-push_first-in-None.ensures c.push_fixed.ensures)

pub returns-in-Some : goal.returns-in-Some
returns-in-Some c = rw c.in-Some.is (c.start_number.ensures.words 0 MOST_MS)
