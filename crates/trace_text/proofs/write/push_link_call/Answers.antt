use Rattle.std.proofs.Common.{◌++◌, ℕ, codes, ap, sym, ◌∙◌}
use Rattle.gv_values.specs.Texts.{decimal}
use Rattle.trace_text.specs.Line.{link_call_text}
use Rattle.trace_text.proofs.Pieces.{as_before, broken, last, no_more, no_text, unchanged}
use Rattle.trace_text.proofs.write.push_link_call.Goals as goal

pub returns-in_err-extend_from_slice-in-Mark : goal.returns-in_err-extend_from_slice-in-Mark
returns-in_err-extend_from_slice-in-Mark c =
    let r = c.from_residual.result in
    record { ok = no_text r _ c.from_residual.ensures.0; err = no_more r (as_before c.in_err-extend_from_slice-in-Mark.ensures.items) }

pub returns-in_ok-extend_from_slice-in-Mark : goal.returns-in_ok-extend_from_slice-in-Mark
returns-in_ok-extend_from_slice-in-Mark c =
    let r = c.decimal_text.result in
    let out = c.args.out.now.items in
    let word = codes "mark " in
    let front = c.in_ok-extend_from_slice-in-Mark.ensures.items in
    record {
      ok = last r _ _ out word (decimal c.from.result) _ front (ap (λ (n : ℕ). word ++ decimal n) c.from.ensures ∙ ap link_call_text (sym c.in-Mark.is)) c.decimal_text.ensures.ok;
      err = broken r _ _ out word front (unchanged r _ _ c.decimal_text.ensures.err);
    }
