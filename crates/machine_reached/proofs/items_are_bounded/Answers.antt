use Rattle.machine_reached.proofs.Bounded.{reached-bounded}
use Rattle.machine_reached.proofs.Last.{run-bounded}
use Rattle.machine_well_formed.proofs.WellFormed.{well-formed-fits}
use Rattle.machine_reached.proofs.items_are_bounded.Goals as goal

pub returns-clause-always : goal.returns-clause-always
returns-clause-always c d next w r = reached-bounded d next (well-formed-fits d w) r

pub returns-clause-last : goal.returns-clause-last
returns-clause-last c d source turns moves w = run-bounded d source turns moves (well-formed-fits d w)
