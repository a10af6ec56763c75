use Rattle.machine_trace_laws.proofs.Runs.{run-lawful}
use Rattle.machine_well_formed.proofs.WellFormed.{well-formed-fits}
use Rattle.machine_trace_laws.proofs.runs_are_lawful.Goals as goal

pub returns : goal.returns
returns c d source turns moves w l = run-lawful d source turns moves (well-formed-fits d w) l
