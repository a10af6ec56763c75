use Rattle.std.proofs.Common.{◌≡◌, ◌<◌, ◌++◌, ◌∙◌, sym, ap, arith, ℕ, List, length, take, get_or, append_assoc}
use Rattle.std.specs.List.{concat}
use Rattle.wsgi_core.proofs.AnswerLaws.{concat_more}
use Rattle.wsgi_core.proofs.answer.push_pieces.Goals as goal

pub loop-piece-preserved : goal.loop-piece-preserved
loop-piece-preserved c =
    let pieces = c.args.pieces.now in
    let i = c.loop-piece.piece-index in
    let p = c.piece-item.result in
    let start = c.args.out.now in
    let inside : i < length pieces = omega (arith, ap length c.items-piece-items.ensures) in
    let is : p ≡ get_or pieces i p = c.piece-item.is ∙ ap (λ (l : List (List ℕ)). get_or l i p) c.items-piece-items.ensures in
    c.in_ok-append.ensures.ok
    ∙ ap (λ (l : List ℕ). c.loop-piece.out ++ l) c.items.ensures
    ∙ ap (λ (l : List ℕ). l ++ p) c.loop-piece.invariant
    ∙ append_assoc start (concat (take i pieces)) p
    ∙ ap (λ (l : List ℕ). start ++ l) (sym (concat_more pieces i p inside is))
