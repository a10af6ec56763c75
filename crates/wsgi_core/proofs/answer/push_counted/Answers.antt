use Rattle.std.proofs.Common.{◌≡◌, ◌<◌, ◌++◌, ◌∙◌, ap, arith, ℕ, List, length, take, get_or, min}
use Rattle.wsgi_core.proofs.AnswerLaws.{counted_sent, counted_left}
use Rattle.wsgi_core.proofs.answer.push_counted.Goals as goal

pub loop-piece-preserved : goal.loop-piece-preserved
loop-piece-preserved c =
    let pieces = c.args.pieces.now in
    let i = c.loop-piece.piece-index in
    let p = c.piece-item.result in
    let left = c.loop-piece.left in
    let len = c.min-len.result in
    let out = c.loop-piece.out in
    let inside : i < length pieces = omega (arith, ap length c.items-piece-items.ensures) in
    let is : p ≡ get_or pieces i p = c.piece-item.is ∙ ap (λ (l : List (List ℕ)). get_or l i p) c.items-piece-items.ensures in
    let least : len ≡ min left (length p) = c.min-len.ensures ∙ ap (λ (l : List ℕ). min left (length l)) c.items-bytes.ensures in
    let pushed : c.append.new.self ≡ out ++ take len p =
    c.in_ok-append.ensures.ok ∙ ap (λ (l : List ℕ). out ++ take len l) c.items-bytes.ensures in
    record {
      sent = counted_sent c.args.length pieces i p inside is left len c.args.out.now out c.append.new.self c.loop-piece.invariant.sent c.loop-piece.invariant.left least pushed;
      left = counted_left c.args.length pieces i p inside is left len c.args.out.now out c.append.new.self c.loop-piece.invariant.sent c.loop-piece.invariant.left least pushed;
    }
