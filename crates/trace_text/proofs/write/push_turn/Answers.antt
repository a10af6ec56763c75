use Rattle.std.proofs.Common.{◌≡◌, List, ℕ, ◌++◌, codes, append_assoc}
use Rattle.gv_values.specs.Texts.{decimal}
use Rattle.trace_text.specs.Line.{and, answer_text}
use Rattle.trace_text.proofs.Pieces.{as_before, both, broken, goes_on, last, no_more, no_text}
use Rattle.trace_text.proofs.write.push_turn.Goals as goal

turn_text : (number answer : List ℕ) → ((codes "turn " ++ number) ++ codes " ") ++ answer ≡ and (and (codes "turn") number) answer
turn_text number answer = simp append_assoc

pub returns-in_err-push_with_number : goal.returns-in_err-push_with_number
returns-in_err-push_with_number c =
    let r = c.from_residual.result in
    record { ok = no_text r _ c.from_residual.ensures.0; err = no_more r c.in_err-push_with_number.ensures.err }

pub returns-in_err-extend_from_slice : goal.returns-in_err-extend_from_slice
returns-in_err-extend_from_slice c =
    let r = c.from_residual-in_err-extend_from_slice.result in
    record {
      ok = no_text r _ c.from_residual-in_err-extend_from_slice.ensures.0;
      err = no_more r (goes_on c.args.out.now.items (codes "turn " ++ decimal c.args.number) c.in_ok-push_with_number.ensures.ok (as_before c.in_err-extend_from_slice.ensures.items));
    }

pub returns : goal.returns
returns c =
    let r = c.push_answer.result in
    let out = c.args.out.now.items in
    let number = codes "turn " ++ decimal c.args.number in
    let blank = codes " " in
    let answer = answer_text c.args.answer in
    let front = both out number blank c.in_ok-push_with_number.ensures.ok c.in_ok-extend_from_slice.ensures.items in
    record {
      ok = last r _ _ out (number ++ blank) answer _ front (turn_text (decimal c.args.number) answer) c.push_answer.ensures.ok;
      err = broken r _ _ out (number ++ blank) front c.push_answer.ensures.err;
    }
