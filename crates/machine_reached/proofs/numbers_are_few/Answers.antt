use Rattle.machine_well_formed.proofs.WellFormed.{well-formed-fits}
use Rattle.machine_reached.proofs.Reached.{in-numbers, in-reached}
use Rattle.machine_reached.proofs.numbers_are_few.Goals as goal

pub returns-clause-few : goal.returns-clause-few
returns-clause-few c d may next w r = in-numbers d may next (well-formed-fits d w) r

pub returns-clause-reached : goal.returns-clause-reached
returns-clause-reached c = in-reached
