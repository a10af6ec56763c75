use Rattle.std.proofs.Common.{◌≡◌, List, ℕ, ◌++◌, codes, ap, ◌∙◌}
use Rattle.gv_values.specs.Texts.{decimal, greenlet_text}
use Rattle.trace_text.specs.Line.{and, link_call_text}
use Rattle.trace_text.proofs.Pieces.{both, broken, goes_on, last, no_more, no_text, with_blanks}
use Rattle.trace_text.proofs.write.push_link.Goals as goal

link_text : (n m : ℕ) (greenlet call : List ℕ) → n ≡ m → ((codes "link " ++ decimal n) ++ (codes " " ++ greenlet ++ codes " ")) ++ call ≡ and (and (and (codes "link") (decimal m)) greenlet) call
link_text n m greenlet call same = with_blanks (codes "link") (codes " ") (decimal n) greenlet call ∙ ap (λ (z : ℕ). and (and (and (codes "link") (decimal z)) greenlet) call) same

pub returns-in_err-push_with_number : goal.returns-in_err-push_with_number
returns-in_err-push_with_number c =
    let r = c.from_residual.result in
    record { ok = no_text r _ c.from_residual.ensures.0; err = no_more r c.in_err-push_with_number.ensures.err }

pub returns-in_err-push_head : goal.returns-in_err-push_head
returns-in_err-push_head c =
    let r = c.from_residual-in_err-push_head.result in
    record {
      ok = no_text r _ c.from_residual-in_err-push_head.ensures.0;
      err = no_more r (goes_on c.args.out.now.items (codes "link " ++ decimal c.from.result) c.in_ok-push_with_number.ensures.ok c.in_err-push_head.ensures.err);
    }

pub returns : goal.returns
returns c =
    let r = c.push_link_call.result in
    let out = c.args.out.now.items in
    let number = codes "link " ++ decimal c.from.result in
    let greenlet = codes " " ++ greenlet_text c.args.greenlet ++ codes " " in
    let call = link_call_text c.args.call.now in
    let front = both out number greenlet c.in_ok-push_with_number.ensures.ok c.in_ok-push_head.ensures.ok in
    record {
      ok = last r _ _ out (number ++ greenlet) call _ front (link_text c.from.result c.args.number (greenlet_text c.args.greenlet) call c.from.ensures) c.push_link_call.ensures.ok;
      err = broken r _ _ out (number ++ greenlet) front c.push_link_call.ensures.err;
    }
