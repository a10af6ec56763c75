use Rattle.std.proofs.Common.{codes, ap, sym}
use Rattle.gv_values.specs.Texts.{fault_text}
use Rattle.trace_text.specs.Line.{job_outcome_text}
use Rattle.trace_text.proofs.Pieces.{as_before, broken, last, no_more, no_text, unchanged}
use Rattle.trace_text.proofs.write.push_job_outcome.Goals as goal

pub returns-in_err-extend_from_slice-in-Fault : goal.returns-in_err-extend_from_slice-in-Fault
returns-in_err-extend_from_slice-in-Fault c =
    let r = c.from_residual.result in
    record { ok = no_text r _ c.from_residual.ensures.0; err = no_more r (as_before c.in_err-extend_from_slice-in-Fault.ensures.items) }

pub returns-in_ok-extend_from_slice-in-Fault : goal.returns-in_ok-extend_from_slice-in-Fault
returns-in_ok-extend_from_slice-in-Fault c =
    let r = c.fault_text.result in
    let out = c.args.out.now.items in
    let word = codes "fault " in
    let front = c.in_ok-extend_from_slice-in-Fault.ensures.items in
    record {
      ok = last r _ _ out word (fault_text c.in-Fault.fault) _ front (ap job_outcome_text (sym c.in-Fault.is)) c.fault_text.ensures.ok;
      err = broken r _ _ out word front (unchanged r _ _ c.fault_text.ensures.err);
    }
