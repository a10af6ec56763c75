use Rattle.std.proofs.Common.{◌≡◌, List, ℕ, ◌++◌, codes, append_assoc, ap, sym, ◌∙◌}
use Rattle.gv_values.specs.Texts.{decimal, job_text}
use Rattle.trace_text.specs.Line.{answer_text, job_outcome_text}
use Rattle.trace_text.proofs.Pieces.{as_before, both, broken, goes_on, last, no_more, no_text}
use Rattle.trace_text.proofs.write.push_answer.Goals as goal

done_text : (word blank job at outcome : List ℕ) → ((((word ++ blank) ++ job) ++ (blank ++ at)) ++ blank) ++ outcome ≡ ((word ++ blank ++ job) ++ blank ++ at) ++ blank ++ outcome
done_text word blank job at outcome = simp append_assoc

pub returns-in_err-extend_from_slice-in-Done : goal.returns-in_err-extend_from_slice-in-Done
returns-in_err-extend_from_slice-in-Done c =
    let r = c.from_residual.result in
    record { ok = no_text r _ c.from_residual.ensures.0; err = no_more r (as_before c.in_err-extend_from_slice-in-Done.ensures.items) }

pub returns-in_err-whom_text-in-Done : goal.returns-in_err-whom_text-in-Done
returns-in_err-whom_text-in-Done c =
    let r = c.from_residual-in_err-whom_text-in-Done.result in
    record {
      ok = no_text r _ c.from_residual-in_err-whom_text-in-Done.ensures.0;
      err = no_more r (goes_on c.args.out.now.items (codes "done ") c.in_ok-extend_from_slice-in-Done.ensures.items (as_before c.in_err-whom_text-in-Done.ensures.err));
    }

pub returns-in_err-push_with_number-in-Done : goal.returns-in_err-push_with_number-in-Done
returns-in_err-push_with_number-in-Done c =
    let r = c.from_residual-in_err-push_with_number-in-Done.result in
    let out = c.args.out.now.items in
    let job = job_text c.in-Done.number in
    record {
      ok = no_text r _ c.from_residual-in_err-push_with_number-in-Done.ensures.0;
      err = no_more r (goes_on out (codes "done " ++ job) (both out (codes "done ") job c.in_ok-extend_from_slice-in-Done.ensures.items c.in_ok-whom_text-in-Done.ensures.ok) c.in_err-push_with_number-in-Done.ensures.err);
    }

pub returns-in_err-extend_from_slice-in-Done-2 : goal.returns-in_err-extend_from_slice-in-Done-2
returns-in_err-extend_from_slice-in-Done-2 c =
    let r = c.from_residual-in_err-extend_from_slice-in-Done-2.result in
    let out = c.args.out.now.items in
    let job = job_text c.in-Done.number in
    let at = codes " " ++ decimal c.in-Done.at in
    let front = both out (codes "done ") job c.in_ok-extend_from_slice-in-Done.ensures.items c.in_ok-whom_text-in-Done.ensures.ok in
    record {
      ok = no_text r _ c.from_residual-in_err-extend_from_slice-in-Done-2.ensures.0;
      err = no_more r (goes_on out ((codes "done " ++ job) ++ at) (both out (codes "done " ++ job) at front c.in_ok-push_with_number-in-Done.ensures.ok) (as_before c.in_err-extend_from_slice-in-Done-2.ensures.items));
    }

pub returns-in_ok-extend_from_slice-in-Done-2 : goal.returns-in_ok-extend_from_slice-in-Done-2
returns-in_ok-extend_from_slice-in-Done-2 c =
    let r = c.push_job_outcome.result in
    let out = c.args.out.now.items in
    let job = job_text c.in-Done.number in
    let at = codes " " ++ decimal c.in-Done.at in
    let outcome = job_outcome_text c.in-Done.outcome in
    let whole = ((codes "done " ++ job) ++ at) ++ codes " " in
    let begun = both out (codes "done ") job c.in_ok-extend_from_slice-in-Done.ensures.items c.in_ok-whom_text-in-Done.ensures.ok in
    let timed = both out (codes "done " ++ job) at begun c.in_ok-push_with_number-in-Done.ensures.ok in
    let front = both out ((codes "done " ++ job) ++ at) (codes " ") timed c.in_ok-extend_from_slice-in-Done-2.ensures.items in
    record {
      ok = last r _ _ out whole outcome _ front (done_text (codes "done") (codes " ") job (decimal c.in-Done.at) outcome ∙ ap answer_text (sym c.in-Done.is)) c.push_job_outcome.ensures.ok;
      err = broken r _ _ out whole front c.push_job_outcome.ensures.err;
    }
