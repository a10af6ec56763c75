use Rattle.machine_well_formed.proofs.WellFormed.{well-formed-fits}
use Rattle.machine_reached.proofs.Reached.{reached-few}
use Rattle.machine_reached.proofs.counts_are_few.Goals as goal

pub returns : goal.returns
returns c d next w r = reached-few d next (well-formed-fits d w) r
