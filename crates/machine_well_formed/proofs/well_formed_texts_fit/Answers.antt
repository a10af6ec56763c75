use Rattle.machine_well_formed.proofs.WellFormed.{well-formed-fits}
use Rattle.machine_well_formed.proofs.well_formed_texts_fit.Goals as goal

pub returns : goal.returns
returns c = well-formed-fits
