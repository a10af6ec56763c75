use Rattle.std.proofs.Common.{◌≡◌, List, ℕ, ◌++◌, codes}
use Rattle.gv_values.specs.Texts.{greenlet_text, job_text}
use Rattle.trace_text.specs.Line.{and, job_call_text}
use Rattle.trace_text.proofs.Pieces.{both, broken, goes_on, last, no_more, no_text, with_blanks}
use Rattle.trace_text.proofs.write.push_job.Goals as goal

job_line : (number greenlet call : List ℕ) → ((codes "job " ++ number) ++ (codes " " ++ greenlet ++ codes " ")) ++ call ≡ and (and (and (codes "job") number) greenlet) call
job_line = with_blanks (codes "job") (codes " ")

pub returns-in_err-push_with_whom : goal.returns-in_err-push_with_whom
returns-in_err-push_with_whom c =
    let r = c.from_residual.result in
    record { ok = no_text r _ c.from_residual.ensures.0; err = no_more r c.in_err-push_with_whom.ensures.err }

pub returns-in_err-push_head : goal.returns-in_err-push_head
returns-in_err-push_head c =
    let r = c.from_residual-in_err-push_head.result in
    record {
      ok = no_text r _ c.from_residual-in_err-push_head.ensures.0;
      err = no_more r (goes_on c.args.out.now.items (codes "job " ++ job_text c.args.number) c.in_ok-push_with_whom.ensures.ok c.in_err-push_head.ensures.err);
    }

pub returns : goal.returns
returns c =
    let r = c.push_job_call.result in
    let out = c.args.out.now.items in
    let number = codes "job " ++ job_text c.args.number in
    let greenlet = codes " " ++ greenlet_text c.args.greenlet ++ codes " " in
    let call = job_call_text c.args.job in
    let front = both out number greenlet c.in_ok-push_with_whom.ensures.ok c.in_ok-push_head.ensures.ok in
    record {
      ok = last r _ _ out (number ++ greenlet) call _ front (job_line (job_text c.args.number) (greenlet_text c.args.greenlet) call) c.push_job_call.ensures.ok;
      err = broken r _ _ out (number ++ greenlet) front c.push_job_call.ensures.err;
    }
