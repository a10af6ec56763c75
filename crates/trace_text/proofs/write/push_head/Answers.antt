use Rattle.std.proofs.Common.{◌++◌, codes, refl}
use Rattle.gv_values.specs.Texts.{greenlet_text}
use Rattle.trace_text.proofs.Pieces.{as_before, both, broken, bytes_err, bytes_ok, goes_on, last, no_more, no_text}
use Rattle.trace_text.proofs.write.push_head.Goals as goal

pub returns-in_err-extend_from_slice : goal.returns-in_err-extend_from_slice
returns-in_err-extend_from_slice c =
    let r = c.from_residual.result in
    record { ok = no_text r _ c.from_residual.ensures.0; err = no_more r (as_before c.in_err-extend_from_slice.ensures.items) }

pub returns-in_err-whom_text : goal.returns-in_err-whom_text
returns-in_err-whom_text c =
    let r = c.from_residual-in_err-whom_text.result in
    record {
      ok = no_text r _ c.from_residual-in_err-whom_text.ensures.0;
      err = no_more r (goes_on c.args.out.now.items c.args.word.now c.in_ok-extend_from_slice.ensures.items (as_before c.in_err-whom_text.ensures.err));
    }

pub returns : goal.returns
returns c =
    let r = c.extend_from_slice-2.result in
    let out = c.args.out.now.items in
    let word = c.args.word.now in
    let greenlet = greenlet_text c.args.greenlet in
    let front = both out word greenlet c.in_ok-extend_from_slice.ensures.items c.in_ok-whom_text.ensures.ok in
    record {
      ok = last r _ _ out (word ++ greenlet) (codes " ") _ front refl (bytes_ok r _ c.whom_text.new.out.items (codes " ") c.extend_from_slice-2.ensures.items);
      err = broken r _ _ out (word ++ greenlet) front (bytes_err r _ c.whom_text.new.out.items (codes " ") c.extend_from_slice-2.ensures.items);
    }
