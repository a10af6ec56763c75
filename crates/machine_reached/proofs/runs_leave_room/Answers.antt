use Rattle.machine_well_formed.proofs.WellFormed.{well-formed-fits}
use Rattle.machine_reached.proofs.Runs.{run-ample, run-in}
use Rattle.machine_reached.proofs.runs_leave_room.Goals as goal

pub returns-clause-stand : goal.returns-clause-stand
returns-clause-stand c d source turns moves w = run-in d source turns moves (well-formed-fits d w)

pub returns-clause-room : goal.returns-clause-room
returns-clause-room c = run-ample
