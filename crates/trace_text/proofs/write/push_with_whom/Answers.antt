use Rattle.std.proofs.Common.{refl}
use Rattle.gv_values.specs.Texts.{whom_text}
use Rattle.trace_text.proofs.Pieces.{as_before, broken, last, no_more, no_text, unchanged}
use Rattle.trace_text.proofs.write.push_with_whom.Goals as goal

pub returns-in_err-extend_from_slice : goal.returns-in_err-extend_from_slice
returns-in_err-extend_from_slice c =
    let r = c.from_residual.result in
    record { ok = no_text r _ c.from_residual.ensures.0; err = no_more r (as_before c.in_err-extend_from_slice.ensures.items) }

pub returns : goal.returns
returns c =
    let r = c.whom_text.result in
    let front = c.in_ok-extend_from_slice.ensures.items in
    record {
      ok = last r _ _ c.args.out.now.items c.args.word.now (whom_text c.args.whom) _ front refl c.whom_text.ensures.ok;
      err = broken r _ _ c.args.out.now.items c.args.word.now front (unchanged r _ _ c.whom_text.ensures.err);
    }
