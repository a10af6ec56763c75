use Rattle.std.proofs.Common.{codes, ap, sym}
use Rattle.gv_values.specs.Texts.{decimal}
use Rattle.trace_text.specs.Line.{until_text}
use Rattle.trace_text.proofs.Pieces.{as_before, broken, last, no_more, no_text, unchanged}
use Rattle.trace_text.proofs.write.push_until.Goals as goal

pub returns-in_err-extend_from_slice-in-Some : goal.returns-in_err-extend_from_slice-in-Some
returns-in_err-extend_from_slice-in-Some c =
    let r = c.from_residual.result in
    record { ok = no_text r _ c.from_residual.ensures.0; err = no_more r (as_before c.in_err-extend_from_slice-in-Some.ensures.items) }

pub returns-in_ok-extend_from_slice-in-Some : goal.returns-in_ok-extend_from_slice-in-Some
returns-in_ok-extend_from_slice-in-Some c =
    let r = c.decimal_text.result in
    let out = c.args.out.now.items in
    let word = codes " until " in
    let front = c.in_ok-extend_from_slice-in-Some.ensures.items in
    record {
      ok = last r _ _ out word (decimal c.in-Some.moment) _ front (ap until_text (sym c.in-Some.is)) c.decimal_text.ensures.ok;
      err = broken r _ _ out word front (unchanged r _ _ c.decimal_text.ensures.err);
    }
