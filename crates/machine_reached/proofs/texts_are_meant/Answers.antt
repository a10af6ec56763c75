use Rattle.machine_reached.proofs.Bounded.{text-meant}
use Rattle.machine_well_formed.proofs.WellFormed.{well-formed-fits}
use Rattle.machine_reached.proofs.texts_are_meant.Goals as goal

pub returns : goal.returns
returns c d w = text-meant d (well-formed-fits d w)
