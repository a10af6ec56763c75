use Rattle.machine_settling.proofs.Fronts.{fronts_numbered, fronts_others, fronts_settled, fronts_stepped, line_holds, walk_stops}
use Rattle.machine_settling.proofs.lines_hold_from_the_front.Goals as goal

pub returns-clause-holding : goal.returns-clause-holding
returns-clause-holding c = line_holds

pub returns-clause-stepped : goal.returns-clause-stepped
returns-clause-stepped c = fronts_stepped

pub returns-clause-settled : goal.returns-clause-settled
returns-clause-settled c = fronts_settled

pub returns-clause-others : goal.returns-clause-others
returns-clause-others c = fronts_others

pub returns-clause-numbered : goal.returns-clause-numbered
returns-clause-numbered c = fronts_numbered

pub returns-clause-stop : goal.returns-clause-stop
returns-clause-stop c = walk_stops
