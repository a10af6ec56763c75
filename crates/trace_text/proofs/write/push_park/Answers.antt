use Rattle.std.proofs.Common.{◌≡◌, List, ℕ, ◌++◌, codes, append_assoc}
use Rattle.gv_values.specs.Texts.{greenlet_text}
use Rattle.trace_text.specs.Line.{and, awaited_text, until_text}
use Rattle.trace_text.proofs.Pieces.{both, broken, goes_on, last, no_more, no_text}
use Rattle.trace_text.proofs.write.push_park.Goals as goal

park_text : (greenlet awaited until : List ℕ) → ((codes "park " ++ greenlet ++ codes " ") ++ awaited) ++ until ≡ and (and (codes "park") greenlet) awaited ++ until
park_text greenlet awaited until = simp append_assoc

pub returns-in_err-push_head : goal.returns-in_err-push_head
returns-in_err-push_head c =
    let r = c.from_residual.result in
    record { ok = no_text r _ c.from_residual.ensures.0; err = no_more r c.in_err-push_head.ensures.err }

pub returns-in_err-push_awaited : goal.returns-in_err-push_awaited
returns-in_err-push_awaited c =
    let r = c.from_residual-in_err-push_awaited.result in
    record {
      ok = no_text r _ c.from_residual-in_err-push_awaited.ensures.0;
      err = no_more r (goes_on c.args.out.now.items (codes "park " ++ greenlet_text c.args.greenlet ++ codes " ") c.in_ok-push_head.ensures.ok c.in_err-push_awaited.ensures.err);
    }

pub returns : goal.returns
returns c =
    let r = c.push_until.result in
    let out = c.args.out.now.items in
    let greenlet = codes "park " ++ greenlet_text c.args.greenlet ++ codes " " in
    let awaited = awaited_text c.args.awaited.now in
    let until = until_text c.args.until in
    let front = both out greenlet awaited c.in_ok-push_head.ensures.ok c.in_ok-push_awaited.ensures.ok in
    record {
      ok = last r _ _ out (greenlet ++ awaited) until _ front (park_text (greenlet_text c.args.greenlet) awaited until) c.push_until.ensures.ok;
      err = broken r _ _ out (greenlet ++ awaited) front c.push_until.ensures.err;
    }
