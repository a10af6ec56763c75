use Rattle.machine_reached.proofs.Bounded.{reached-offered}
use Rattle.machine_well_formed.proofs.WellFormed.{well-formed-fits}
use Rattle.machine_reached.proofs.offers_stand.Goals as goal

pub returns : goal.returns
returns c d w next r = reached-offered d next (well-formed-fits d w) r
