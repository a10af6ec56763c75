use Rattle.scenario_print.proofs.Words.{in_range, started}
use Rattle.scenario_print.proofs.start.start_number.Goals as goal

pub returns-clause-words : goal.returns-clause-words
returns-clause-words c = λ least greatest. rw (← c.from.ensures) (started c.in_ok-push_first.ensures (in_range least greatest c.push_number.ensures))
