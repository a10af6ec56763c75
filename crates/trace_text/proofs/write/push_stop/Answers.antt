use Rattle.std.proofs.Common.{◌≡◌, List, ℕ, ◌++◌, codes, append_assoc}
use Rattle.gv_values.specs.Texts.{decimal}
use Rattle.trace_text.specs.Line.{and, cause_text}
use Rattle.trace_text.proofs.Pieces.{as_before, both, broken, goes_on, last, no_more, no_text}
use Rattle.trace_text.proofs.write.push_stop.Goals as goal

stop_text : (cause turns moves : List ℕ) → ((codes "stop " ++ cause) ++ (codes " turns " ++ turns)) ++ (codes " moves " ++ moves) ≡ and (and (and (and (and (codes "stop") cause) (codes "turns")) turns) (codes "moves")) moves
stop_text cause turns moves = simp append_assoc

pub returns-in_err-extend_from_slice : goal.returns-in_err-extend_from_slice
returns-in_err-extend_from_slice c =
    let r = c.from_residual.result in
    record { ok = no_text r _ c.from_residual.ensures.0; err = no_more r (as_before c.in_err-extend_from_slice.ensures.items) }

pub returns-in_err-push_cause : goal.returns-in_err-push_cause
returns-in_err-push_cause c =
    let r = c.from_residual-in_err-push_cause.result in
    record {
      ok = no_text r _ c.from_residual-in_err-push_cause.ensures.0;
      err = no_more r (goes_on c.args.out.now.items (codes "stop ") c.in_ok-extend_from_slice.ensures.items c.in_err-push_cause.ensures.err);
    }

pub returns-in_err-push_with_number : goal.returns-in_err-push_with_number
returns-in_err-push_with_number c =
    let r = c.from_residual-in_err-push_with_number.result in
    let out = c.args.out.now.items in
    let cause = cause_text c.args.cause.now in
    record {
      ok = no_text r _ c.from_residual-in_err-push_with_number.ensures.0;
      err = no_more r (goes_on out (codes "stop " ++ cause) (both out (codes "stop ") cause c.in_ok-extend_from_slice.ensures.items c.in_ok-push_cause.ensures.ok) c.in_err-push_with_number.ensures.err);
    }

pub returns : goal.returns
returns c =
    let r = c.push_with_number-2.result in
    let out = c.args.out.now.items in
    let cause = cause_text c.args.cause.now in
    let turns = codes " turns " ++ decimal c.args.turns in
    let moves = codes " moves " ++ decimal c.args.moves in
    let front = both out (codes "stop " ++ cause) turns (both out (codes "stop ") cause c.in_ok-extend_from_slice.ensures.items c.in_ok-push_cause.ensures.ok) c.in_ok-push_with_number.ensures.ok in
    record {
      ok = last r _ _ out ((codes "stop " ++ cause) ++ turns) moves _ front (stop_text cause (decimal c.args.turns) (decimal c.args.moves)) c.push_with_number-2.ensures.ok;
      err = broken r _ _ out ((codes "stop " ++ cause) ++ turns) front c.push_with_number-2.ensures.err;
    }
