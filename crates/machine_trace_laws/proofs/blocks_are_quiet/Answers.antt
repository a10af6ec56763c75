use Rattle.machine_trace_laws.proofs.Quieted.{run-quiet}
use Rattle.machine_well_formed.proofs.WellFormed.{well-formed-fits}
use Rattle.machine_trace_laws.proofs.blocks_are_quiet.Goals as goal

pub returns : goal.returns
returns c d source turns moves w = run-quiet d source turns moves (well-formed-fits d w)
