use Rattle.std.proofs.Common.{◌≡◌, ◌≤◌, ◌∙◌, sym, ap, arith, length, drop, length-drop}
use Rattle.std.proofs.lemmas.List.{drop-drop}
use Rattle.http_messages.specs.Cuts.{empty_line, drop_empty_lines}
use Rattle.http_messages.proofs.CutLaws.{empty_fits}
use Rattle.http_messages.proofs.JudgeLaws.{drop_line, no_line}
use Rattle.http_messages.proofs.ScanLaws.{take_rest}
use Rattle.http_messages.proofs.head.empty_lines_len.Goals as goal

pub returns-then-len-eq0-clause-rest : goal.returns-then-len-eq0-clause-rest
returns-then-len-eq0-clause-rest c =
    let bytes = c.args.bytes.now in
    let at = c.loop-at.at in
    let here : empty_line (drop at bytes) ≡ c.empty_line-len.result = sym (c.empty_line-len.ensures ∙ ap empty_line (take_rest bytes at)) in
    sym (no_line (drop at bytes) (here ∙ c.if-len-eq0.true)) ∙ c.loop-at.invariant.same

pub overflow_add-at : goal.overflow_add-at
overflow_add-at c =
    let bytes = c.args.bytes.now in
    let at = c.loop-at.at in
    let fits : c.empty_line-len.result ≤ length (drop at bytes) = rw (c.empty_line-len.ensures, take_rest) (empty_fits (drop at bytes)) in
    omega (arith, length-drop at bytes)

pub loop-at-preserved : goal.loop-at-preserved
loop-at-preserved c =
    let bytes = c.args.bytes.now in
    let at = c.loop-at.at in
    let len = c.empty_line-len.result in
    let here : empty_line (drop at bytes) ≡ len = sym (c.empty_line-len.ensures ∙ ap empty_line (take_rest bytes at)) in
    let fits : len ≤ length (drop at bytes) = rw (← here) (empty_fits (drop at bytes)) in
    record {
      within = omega (arith, length-drop at bytes);
      same =
          ap drop_empty_lines (sym (drop-drop len at bytes)) ∙ sym (drop_line (drop at bytes) len here (omega arith))
          ∙ c.loop-at.invariant.same;
    }
