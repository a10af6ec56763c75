use Rattle.std.proofs.Common.{◌++◌, ◌∙◌, List, ℕ, ap, sym}
use Rattle.gv_values.proofs.Fronts.{BeginsWith-after}
use Rattle.wsgi_core.proofs.Appending.{chunk_of, then_appended}
use Rattle.wsgi_core.proofs.ProgressSteps.{one_err, one_ok}
use Rattle.wsgi_core.proofs.answer.push_chunk.Goals as goal

pub returns-clause-sent : goal.returns-clause-sent
returns-clause-sent c =
    one_ok c.push_line.result _ _ c.push_line.ensures.sent
    (λ e. then_appended _ _ _ _ _ c.in_ok-push_size.ensures.sent e
    ∙ ap (λ (l : List ℕ). c.args.out.now ++ l) (sym (chunk_of c.args.piece.now _ c.is_empty.ensures c.if-is_empty.false)))

pub returns-clause-err : goal.returns-clause-err
returns-clause-err c = one_err c.push_line.result _ _ c.push_line.ensures.err (λ b. BeginsWith-after _ _ _ _ c.in_ok-push_size.ensures.sent b)
