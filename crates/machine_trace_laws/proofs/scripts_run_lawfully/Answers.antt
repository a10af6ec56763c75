use Rattle.std.proofs.Common.{[]}
use Rattle.machine.specs.Run.{Source}
use Rattle.machine_trace_laws.proofs.Runs.{run-lawful}
use Rattle.machine_trace_laws.proofs.Scripted.{script-legal}
use Rattle.machine_well_formed.proofs.WellFormed.{well-formed-fits}
use Rattle.machine_trace_laws.proofs.scripts_run_lawfully.Goals as goal

pub returns : goal.returns
returns c d turns moves tick w =
    let legal = script-legal d turns moves tick (well-formed-fits d w) in
    record { legal = legal; lawful = run-lawful d (Source.Scripted tick []) turns moves (well-formed-fits d w) legal }
